-- The histories with stops that sites on disks, with a world, stand for.
use Rattle.std.specs.Prelude.{◌≡◌, ◌<◌, ◌==◌, ℕ, Bool, false, List, [], ◌∷◌, ◌++◌, length, map, Option, Some, None}
use Rattle.std.specs.Prelude.{slice_get}
use Rattle.sat_act.specs.Deployed.{Deployed}
use Rattle.sat_act.specs.declared.answer.Answer.{Answer}
use Rattle.sat_act.specs.declared.entry.Entry.{Entry}
use Rattle.sat_durable.specs.Machine.{Recovers, run_of}
use Rattle.sat_model.specs.Input as model
use Rattle.sat_model.specs.Journal.{Noted, journal}
use Rattle.sat_model.specs.Replay.{site_state}
use Rattle.sat_model.specs.State.{SiteState}
use Rattle.sat_site.specs.declared.input.SiteInput.{SiteInput}
use Rattle.sat_site.specs.Inputs.{input_of}
use Rattle.sat_site.specs.Stands.{StandsSite}
use Rattle.sat_world.specs.Seen.{WorldSeen}
use Rattle.sat_world.specs.Stands.{StandsFor}
use Rattle.sat_lasting_laws.specs.declared.lasting_act.LastingAct.{LastingAct}
use Rattle.sat_lasting_laws.specs.declared.lasting_answer.LastingAnswer.{LastingAnswer}
use Rattle.sat_lasting_laws.specs.declared.lasting_answer.LastingAnswer.TheVariants as says
use Rattle.sat_lasting_laws.specs.Lastings.{LastingEntry, armed, kept}
use Rattle.sat_lasting_laws.specs.LastingAnswers.{lasting_answer}
use Rattle.sat_lasting_laws.specs.LastingRuns.{IsLastingRun}
use Rattle.sat_lasting_laws.specs.Goals.{IsLastingGood}
use Rattle.sat_lasting.specs.declared.cut.Cut.{Cut}
use Rattle.sat_lasting.specs.declared.slot.Slot.{Slot}
use Rattle.sat_lasting.specs.Cuts.{cut_at}
use Rattle.sat_lasting.specs.Sites.{fresh_kept, site_meaning}
use Rattle.sat_lasting.specs.Slots.{SlotKeeps, StepsSlot, TakesNext}

-- ---- the inputs of a site

-- what lines of a journal, the newest first, say that a site was handed, the first of it first
abbrev pub handed_in : List Noted → List model.SiteInput
handed_in [] = []
handed_in (n ∷ ns) = handed_in ns ++ n.input ∷ []

-- These are the inputs of these lines, and a site that took them stands for this state.
pub record AreInputsOf (d : Deployed) (i : ℕ) (lines : List Noted) (s : SiteState)
    (inputs : List SiteInput) : Type 0 where
  pub handed : map input_of inputs ≡ handed_in lines
  pub stands : StandsSite d i (run_of site_meaning (fresh_kept d i) inputs).machine.site s

-- These are what site i was handed in a history, and a site that took them stands for its state after it. So does the
-- site of a world that stands for the history: both answer the next input alike.
abbrev pub AreInputs : Deployed → List Entry → ℕ → List SiteInput → Type 0
AreInputs d h i inputs = AreInputsOf d i (journal d h i) (site_state d h i) inputs

-- These bytes are a journal of what site i was handed in a history, and recovering it gives the site after just these
-- inputs.
pub record IsJournalAt (d : Deployed) (h : List Entry) (i : ℕ) (content : List ℕ) : Type 0 where
  pub inputs : List SiteInput
  pub are : AreInputs d h i inputs
  pub recovers : Recovers site_meaning (fresh_kept d i) content inputs

-- ---- all sites

-- the world; by number each site again on its disk; and the cut that waits at each
pub record LastingSeen : Type 0 where
  pub world : WorldSeen
  pub slots : List Slot
  pub cuts : List (Option Cut)

-- a slot and a place for a cut for each site
pub record HasPlaces (l : LastingSeen) : Type 0 where
  pub slots : length l.slots ≡ l.world.deployment.sites
  pub cuts : length l.cuts ≡ l.world.deployment.sites

-- site i on its disk has just the kept inputs, and the cut that waits at it is the history's
pub record LastsAt (d : Deployed) (l : LastingSeen) (c : List LastingEntry) (i : ℕ) : Type 0 where
  pub slot : Slot
  pub at : slice_get l.slots i ≡ Some slot
  pub inputs : List SiteInput
  pub are : AreInputs d (kept c) i inputs
  pub keeps : SlotKeeps d i inputs slot
  pub cut : Option Cut
  pub waits : slice_get l.cuts i ≡ Some cut
  pub same : cut_at cut ≡ armed d c i

-- The world stands for the run of the kept acts, and so does each site on its disk.
pub record LastsFor (l : LastingSeen) (c : List LastingEntry) : Type 0 where
  pub world : StandsFor l.world (kept c)
  pub sites : (i : ℕ) → i < l.world.deployment.sites → LastsAt l.world.deployment l c i

-- they stand for some history: after want of memory they may stand for none
abbrev pub IsSound : LastingSeen → Type 0
IsSound l = (c : List LastingEntry) × IsLastingRun l.world.deployment c × LastsFor l c

-- the answer is the history's, and all then stands for the history with the act's entry, which is one again and good
pub record LastingApplies (old : LastingSeen) (a : LastingAct) (r : LastingAnswer) (new : LastingSeen) : Type 0 where
  pub answer : (c : List LastingEntry) → IsLastingRun old.world.deployment c → LastsFor old c
      → r ≡ lasting_answer old.world.deployment c a
  pub run : (c : List LastingEntry) → IsLastingRun old.world.deployment c → LastsFor old c
      → IsLastingRun new.world.deployment (record { act = a; answer = r } ∷ c)
  pub stands : (c : List LastingEntry) → IsLastingRun old.world.deployment c → LastsFor old c
      → LastsFor new (record { act = a; answer = r } ∷ c)
  pub good : (c : List LastingEntry) → IsLastingRun old.world.deployment c → LastsFor old c
      → IsLastingGood old.world.deployment (record { act = a; answer = r } ∷ c)
  pub deployment : new.world.deployment ≡ old.world.deployment

-- so many sites on disks, at which nothing has happened
pub record AreFresh (d : Deployed) (n : ℕ) (slots : List Slot) : Type 0 where
  pub count : length slots ≡ n
  pub each : (i : ℕ) (slot : Slot) → slice_get slots i ≡ Some slot → SlotKeeps d i [] slot

-- ---- one place

-- the slot at a place becomes another one, to which it stands in a relation, and no other one changes
pub record Changes (i : ℕ) (old new : List Slot) (R : Slot → Slot → Type 0) : Type 0 where
  pub before : Slot
  pub was : slice_get old i ≡ Some before
  pub after : Slot
  pub now : slice_get new i ≡ Some after
  pub others : (k : ℕ) → (i == k) ≡ false → slice_get new k ≡ slice_get old k
  pub holds : R before after

-- by a step
abbrev pub Steps : Deployed → ℕ → SiteInput → Option Cut → Bool → Slot → Slot → Type 0
Steps d i given cut there before after =
    (inputs : List SiteInput) → TakesNext d i inputs given → SlotKeeps d i inputs before
    → StepsSlot d i inputs given cut there after

-- by a stop, which tells of so many inputs
abbrev pub Stops : Deployed → ℕ → ℕ → Slot → Slot → Type 0
Stops d i count before after =
    (inputs : List SiteInput) → SlotKeeps d i inputs before → SlotKeeps d i inputs after × (count ≡ length inputs)

-- the answer of an act whose input is there, by the cut that fell into it
abbrev pub whole_answer : Option Cut → Answer → LastingAnswer
whole_answer None n = says.Plain n
whole_answer (Some cut) n = says.Stopped n
