-- What this crate proves of sites and worlds without the past.
use Rattle.std.specs.Prelude.{◌≡◌, ℕ, Bool, true, false, not, List, [], ◌∷◌, Some, None}
use Rattle.sat_label.specs.declared.label.Label.{Label}
use Rattle.sat_label.specs.declared.node.NodeId.{NodeId}
use Rattle.sat_label.specs.Members.{In}
use Rattle.sat_tree.specs.Shape.{TreeShape}
use Rattle.sat_act.specs.declared.act.Act.{Act}
use Rattle.sat_act.specs.declared.answer.Answer.{Answer}
use Rattle.sat_act.specs.declared.answer.Answer.TheVariants as ans
use Rattle.sat_act.specs.declared.entry.Entry.{Entry}
use Rattle.sat_act.specs.Deployed.{Deployed}
use Rattle.sat_act.specs.Parts.{tree_of}
use Rattle.sat_act.specs.Answers.{InRange, answer}
use Rattle.sat_act.specs.Ranges.{IsActOf}
use Rattle.sat_act.specs.Settling.{is_done}
use Rattle.sat_act.specs.Runs.{IsRun, is_settle}
use Rattle.sat_act.specs.Goals.{IsValid}
use Rattle.sat_model.specs.Input.{SiteInput}
use Rattle.sat_model.specs.Reply.{site_answer, site_step}
use Rattle.sat_model.specs.Replay.{handed, site_state}
use Rattle.sat_model.specs.Journal.{journal, replay, IsJournal}
use Rattle.sat_model.specs.Fits.{fits}
use Rattle.sat_model.specs.Times.{HasTimes}
use Rattle.sat_model.specs.OnLinks.{IsOnLink}
use Rattle.sat_model.specs.Parts.{PartsAgree}
use Rattle.sat_model.specs.World.{world_step, world_state, fresh_world, link_left}

-- the site that is handed something answers as the entry does, and then stands for the history with the entry
abbrev pub SitesStep : Type 0
SitesStep =
    (d : Deployed) (h : List Entry) (e : Entry) (i : ℕ) (input : SiteInput) →
    IsValid d → IsRun d (e ∷ h) → handed d h e.act i ≡ Some input →
    site_step d i (site_state d h i) input ≡ (e.answer, site_state d (e ∷ h) i)

-- every other site stays
abbrev pub OthersStay : Type 0
OthersStay =
    (d : Deployed) (h : List Entry) (e : Entry) (i : ℕ) → handed d h e.act i ≡ None
    → site_state d (e ∷ h) i ≡ site_state d h i

-- what is handed by an act whose numbers name what they should fits: a run alone doesn't ask that the items of writes
-- and reads are the deployment's
abbrev pub InputsFit : Type 0
InputsFit =
    (d : Deployed) (h : List Entry) (a : Act) (i : ℕ) (input : SiteInput) →
    IsValid d → IsRun d h → IsActOf d a → handed d h a i ≡ Some input → fits d i (site_state d h i) input ≡ true

-- no timestamp of a run is past the last
abbrev pub TimesEnd : Type 0
TimesEnd = (d : Deployed) (h : List Entry) → IsValid d → IsRun d h → HasTimes d h

-- each label that stands on a link is one that the link leads on
abbrev pub LinksLead : Type 0
LinksLead =
    (d : Deployed) (h : List Entry) (epoch : ℕ) (tree : TreeShape) (u v : NodeId) (l : Label) →
    IsValid d → IsRun d h → tree_of d epoch ≡ Some tree → In (link_left d h epoch u v) l → IsOnLink d tree u v l

-- a site's state is the replay of its journal, whose answers are its machine's
abbrev pub JournalsReplay : Type 0
JournalsReplay =
    (d : Deployed) (h : List Entry) (i : ℕ) → IsValid d → IsRun d h →
    (replay d i (journal d h i) ≡ site_state d h i) × IsJournal d i (journal d h i)

-- an entry whose answer is that of a node's machine, replayed from its journal and handed what the history hands, goes
-- on a run
abbrev pub RunsGoOn : Type 0
RunsGoOn =
    (d : Deployed) (h : List Entry) (e : Entry) (i : ℕ) (input : SiteInput) →
    IsValid d → IsRun d h → InRange d e.act → handed d h e.act i ≡ Some input →
    e.answer ≡ site_answer d i (replay d i (journal d h i)) input → IsRun d (e ∷ h)

-- a world answers each act of a run but settle, and then stands for the history with the entry
abbrev pub WorldsStep : Type 0
WorldsStep =
    (d : Deployed) (h : List Entry) (a : Act) → IsValid d → IsRun d h → InRange d a → is_settle a ≡ false →
    world_step d (world_state d h) a ≡
    (answer d h a, world_state d (record { act = a; answer = answer d h a; inner = false } ∷ h))

-- the empty history is stood for by the fresh world
abbrev pub WorldsStart : Type 0
WorldsStart = (d : Deployed) → world_state d [] ≡ fresh_world d

-- an answer that says that nothing changed, or that of a settle, whose inner entries have changed all that it did
abbrev pub leaves_all : Answer → Bool
leaves_all (ans.Settled rounds done) = true
leaves_all answer = not (is_done answer)

-- an act that was refused, or that found all done, leaves the world, and so does the entry of a settle
abbrev pub UndoneStays : Type 0
UndoneStays =
    (d : Deployed) (h : List Entry) (e : Entry) → leaves_all e.answer ≡ true → world_state d (e ∷ h) ≡ world_state d h

-- an entry with another flag
abbrev pub flagged : Bool → Entry → Entry
flagged inner e = record { act = e.act; answer = e.answer; inner = inner }

-- a world doesn't know which entries a settle made
abbrev pub FlagsAreFree : Type 0
FlagsAreFree =
    (d : Deployed) (h : List Entry) (e : Entry) (inner : Bool)
    → world_state d (flagged inner e ∷ h) ≡ world_state d (e ∷ h)

-- each part of the world that stands for a history is what the history says
abbrev pub EachPartAgrees : Type 0
EachPartAgrees = (d : Deployed) (h : List Entry) → IsValid d → IsRun d h → PartsAgree d h (world_state d h)

-- what a site answers is a function of its journal and of what it is handed
abbrev pub AnswersAreLocal : Type 0
AnswersAreLocal =
    (d : Deployed) (h k : List Entry) (i : ℕ) (a b : Act) (input : SiteInput) →
    IsValid d → IsRun d h → IsRun d k → journal d h i ≡ journal d k i →
    handed d h a i ≡ Some input → handed d k b i ≡ Some input → answer d h a ≡ answer d k b
