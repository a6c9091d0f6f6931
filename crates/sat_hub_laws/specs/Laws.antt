-- What this crate proves of the journals of hubs and gears.
use Rattle.std.specs.Prelude.{◌≡◌, ℕ, Bool, true, false, ◌||◌, ◌==◌, nat_lt, List, Option, Some}
use Rattle.sat_label.specs.Grouped.{list_of}
use Rattle.sat_label.specs.Words.{has}
use Rattle.sat_label.specs.declared.carried.Carried.{Carried}
use Rattle.sat_label.specs.declared.items.Items.{Items}
use Rattle.sat_label.specs.declared.label.Label.{Label}
use Rattle.sat_act.specs.declared.act.Act.{Act}
use Rattle.sat_act.specs.declared.act.Act.TheVariants as act
use Rattle.sat_act.specs.declared.answer.Answer.TheVariants as ans
use Rattle.sat_label.specs.Members.{In}
use Rattle.sat_label.specs.declared.node.NodeId.{NodeId}
use Rattle.sat_tree.specs.Shape.{TreeShape}
use Rattle.sat_tree.specs.Cut.{is_edge}
use Rattle.sat_act.specs.declared.answer.Answer.{Answer}
use Rattle.sat_act.specs.Deployed.{Deployed}
use Rattle.sat_act.specs.Answers.{InRange}
use Rattle.sat_act.specs.Parts.{items_of, tree_of}
use Rattle.sat_model.specs.Reply.{gear_for}
use Rattle.sat_act.specs.Runs.{IsRun}
use Rattle.sat_act.specs.Goals.{IsValid}
use Rattle.sat_model.specs.Replay.{site_state}
use Rattle.sat_stitch.specs.Kept.{Given, OfClient, history, marks}
use Rattle.sat_stitch.specs.Places.{Session, Client}
use Rattle.sat_stitch.specs.Fit.{IsHanded}
use Rattle.sat_stitch.specs.Nodes.{put_on, stands, took_from}
use Rattle.sat_joint.specs.Pieces.{Drain, Piece, Rises, EachOf, given_of, number_of, plains}
use Rattle.sat_joint.specs.Table.{Node, AtHub, AtGear, AtSerial, Alone, home_at, is_first, link_node, nodes, same_node}
use Rattle.sat_joint.specs.Machines.{HubState, GearNode, IsGearAnswer, IsHubAnswer, gear_after, hub_after, kept_site}
use Rattle.sat_joint.specs.Machines.{whole}
use Rattle.sat_joint.specs.Joint.{AnswersAtHome, BeatsFit, IsJointMerge, IsSessionList, JointFit, KnowsClient}
use Rattle.sat_joint.specs.Joint.{PayloadsFit}
use Rattle.sat_hub_laws.specs.Inputs.{HubInput, GearInput}
use Rattle.sat_hub_laws.specs.Inputs as given
use Rattle.sat_hub_laws.specs.Sites.{has_part, is_gather, is_shown}
use Rattle.sat_hub_laws.specs.Hubs.{hub_act, hub_answer, hub_handed}
use Rattle.sat_hub_laws.specs.Gears.{gear_act, gear_answer, gear_handed, is_own}
use Rattle.sat_hub_laws.specs.Lines.{HubLine, GearLine, IsHubJournal, IsGearJournal, gear_pieces, gear_replay}
use Rattle.sat_hub_laws.specs.Lines.{hub_pieces, hub_replay, node_lists}
use Rattle.sat_hub_laws.specs.Parts.{PartsAgree}

-- ---- the table of nodes, and answers

-- whether an entry stands at gear g of site i
abbrev pub is_beside : Deployed → ℕ → ℕ → Act → Given → Answer → Bool
is_beside d i g a x r = has same_node (nodes d a x r) (AtGear i g)

-- a hub is the home of all that it is handed
abbrev pub HubsAreHomes : Type 0
HubsAreHomes =
    (d : Deployed) (i c : ℕ) (input : HubInput) (r : Answer) →
    is_first (AtHub i) (nodes d (hub_act i c input) (given_of (hub_handed input)) r) ≡ true

-- and a gear that of its own acts, and of none of which it is handed a part
abbrev pub GearsAreHomes : Type 0
GearsAreHomes =
    (d : Deployed) (i g c : ℕ) (input : GearInput) (r : Answer) →
    is_first (AtGear i g) (nodes d (gear_act i g c input) (given_of (gear_handed i input)) r) ≡ is_own d g input

-- the gears at which the acts of a hub stand: at a gather all of the deployment's, at a turn or a stamp that shows
-- those of the items, and else none
pub record HubsGears (d : Deployed) (i c g : ℕ) (x : Given) : Type 0 where
  pub gather : (f : ℕ → Drain) (r : Answer) → is_beside d i g (hub_act i c (given.Gather f)) x r ≡ nat_lt g d.gears
  pub turn : (front : Option Label) (l : Label)
      → is_beside d i g (hub_act i c (given.Turn front)) x (ans.Shown l) ≡ has_part d i (items_of l.kind) g
  pub stamp : (l : Label) → is_beside d i g (hub_act i c given.Stamp) x (ans.Shown l)
      ≡ has_part d i (items_of l.kind) g
  pub other : (input : HubInput) (r : Answer) → is_gather input ≡ false → is_shown r ≡ false
      → is_beside d i g (hub_act i c input) (given_of (hub_handed input)) r ≡ false

abbrev pub HubsStandAt : Type 0
HubsStandAt = (d : Deployed) (i c g : ℕ) (x : Given) → HubsGears d i c g x

-- a write of several items at gear h stands at the gears of its items too, once it is done
abbrev pub WritesStandAt : Type 0
WritesStandAt =
    (d : Deployed) (i c g : ℕ) (seen : Carried) (items : Items) (values : List (List ℕ)) (l : Label) →
    is_beside d i g (act.Writes c items values) (OfClient seen (Some i)) (ans.Wrote l)
    ≡ ((gear_for d items == g) || has_part d i (list_of items) g)

-- what a hub answers is the answer of the act
abbrev pub HubsAnswer : Type 0
HubsAnswer =
    (d : Deployed) (i c : ℕ) (h : HubState) (input : HubInput) →
    IsHubAnswer d i h (hub_act i c input) (hub_handed input) (hub_answer d i h input)

-- and so is what a gear answers in an act of its own
abbrev pub GearsAnswer : Type 0
GearsAnswer =
    (d : Deployed) (i g c : ℕ) (n : GearNode) (input : GearInput) → is_own d g input ≡ true →
    IsGearAnswer d i n (gear_act i g c input) (gear_handed i input) (gear_answer d i n input)

-- ---- replays

-- a hub's state is the replay of its journal, and of the pieces of acts that this is
abbrev pub HubsReplay : Type 0
HubsReplay = (d : Deployed) (i : ℕ) (ks : List HubLine) → hub_after d i (hub_pieces i ks) ≡ hub_replay d i ks

-- and so is a gear's
abbrev pub GearsReplay : Type 0
GearsReplay = (d : Deployed) (i g : ℕ) (ks : List GearLine) → gear_after d g (gear_pieces i g ks) ≡ gear_replay d g ks

-- ---- journals

-- the list of a serializer, or of a session alone
pub record IsOtherList (d : Deployed) (p : Node) (ks : List Piece) : Type 0 where
  pub rising : Rises number_of ks
  pub placed : (k : Piece) → In ks k → home_at d p k ≡ true
  pub ranges : (k : Piece) → In ks k → InRange d k.act
  pub answers : EachOf (AnswersAtHome d (λ p. ks) p) ks
  pub standing : (k : Piece) → In ks k → stands k.answer ≡ true

-- journals of the machines of hubs and gears, with lists of serializers and sessions, that fit: in each the numbers
-- rise, inputs fit and answers are the machine's; the parts of gears are those of their homes; and what was taken was
-- put or made by another node before
pub record JournalsFit (d : Deployed) (hubs : ℕ → List HubLine) (gears : ℕ → ℕ → List GearLine)
    (others : Node → List Piece) (sessions : Session → List Piece) : Type 0 where
  pub of_hubs : (i : ℕ) → IsHubJournal d i (hubs i)
  pub of_gears : (i g : ℕ) → IsGearJournal d i g (gears i g)
  pub of_serials : (e z : ℕ) → IsOtherList d (AtSerial e z) (others (AtSerial e z))
  pub of_clients : (c : ℕ) → IsOtherList d (Alone c) (others (Alone c))
  pub parts : PartsAgree d (node_lists hubs gears others)
  pub links : (e : ℕ) (t : TreeShape) (u v : NodeId) → tree_of d e ≡ Some t → is_edge t u v ≡ true →
      IsHanded (marks (took_from d e u v) (plains (node_lists hubs gears others (link_node e v))))
      (marks (put_on d e t u v) (plains (node_lists hubs gears others (link_node e u))))
  pub payloads : (j : ℕ) → EachOf (PayloadsFit d (node_lists hubs gears others) j) (hub_pieces j (hubs j))
  pub beats : (j : ℕ) → EachOf (BeatsFit d (node_lists hubs gears others) j) (hub_pieces j (hubs j))
  pub kept : (s : Session) → IsSessionList d (node_lists hubs gears others) s (sessions s)
  pub known : (c : ℕ) → EachOf (KnowsClient d (node_lists hubs gears others) c) (sessions (Client c))

-- as lists of pieces of acts they fit, so all that is proved of such lists and their merge holds of them
abbrev pub JournalsJoin : Type 0
JournalsJoin =
    (d : Deployed) (hubs : ℕ → List HubLine) (gears : ℕ → ℕ → List GearLine) (others : Node → List Piece)
    (sessions : Session → List Piece) → JournalsFit d hubs gears others sessions →
    JointFit d (node_lists hubs gears others) sessions

-- their merge is a run
abbrev pub JournalsAreRuns : Type 0
JournalsAreRuns =
    (d : Deployed) (hubs : ℕ → List HubLine) (gears : ℕ → ℕ → List GearLine) (others : Node → List Piece)
    (sessions : Session → List Piece) (all : List Piece) → IsValid d → JournalsFit d hubs gears others sessions →
    IsJointMerge d (node_lists hubs gears others) all → IsRun d (history (plains all))

-- and each site's state in this run is that of its hub and its gears, replayed from their own journals
abbrev pub SitesAreReplayed : Type 0
SitesAreReplayed =
    (d : Deployed) (hubs : ℕ → List HubLine) (gears : ℕ → ℕ → List GearLine) (others : Node → List Piece)
    (sessions : Session → List Piece) (all : List Piece) → IsValid d → JournalsFit d hubs gears others sessions →
    IsJointMerge d (node_lists hubs gears others) all → (i : ℕ) →
    kept_site d i (site_state d (history (plains all)) i)
    ≡ whole d i (hub_replay d i (hubs i)) (λ g. gear_replay d g (gears i g))
