-- What the nodes of an act kept of it, compared at the end: no clause crosses a lock, so that they fit is seen by
-- comparing values alone.
use Rattle.std.specs.Prelude.{◌≡◌, ℕ, Bool, true, false, List, Option, Some}
use Rattle.sat_label.specs.Grouped.{list_of}
use Rattle.sat_label.specs.Members.{In}
use Rattle.sat_label.specs.Words.{has}
use Rattle.sat_label.specs.declared.items.Items.{Items}
use Rattle.sat_label.specs.declared.label.Label.{Label}
use Rattle.sat_act.specs.declared.act.Act.{Act}
use Rattle.sat_act.specs.declared.act.Act.TheVariants as act
use Rattle.sat_act.specs.declared.answer.Answer.{Answer}
use Rattle.sat_act.specs.declared.answer.Answer.TheVariants as ans
use Rattle.sat_act.specs.Deployed.{Deployed}
use Rattle.sat_bulk.specs.Payloads.{Payload}
use Rattle.sat_model.specs.Input.{SiteInput}
use Rattle.sat_stitch.specs.Nodes.{input_of}
use Rattle.sat_joint.specs.Pieces.{Drain, Handed, Plain, Drains, Drained, Showing, Piece}
use Rattle.sat_joint.specs.Table.{Node, AtHub, AtGear, same_node, gear_nodes, item_gears, is_shared, stands_in, home_at}
use Rattle.sat_joint.specs.Machines.{HubState, GearNode, hub_after, gear_after, drain_of, shown_by, written_by}
use Rattle.sat_joint.specs.Machines.{IsHomeAnswer}
use Rattle.sat_joint.specs.Joint.{AreOne, StandsIn, AllJoin, HasHome}

-- what passed between the home of an act and a gear: nothing, what the gear gave, or what it was given to show
pub data Share : Type 0 where
  NoShare : Share
  Gave : (drain : Drain) → Share
  Got : (payload : Payload) → Share

-- what a gear keeps of an act whose home it is not, by its own state
abbrev pub gear_share : GearNode → Handed → Share
gear_share n (Plain x) = NoShare
gear_share n (Drains f) = NoShare
gear_share n Drained = Gave (drain_of n)
gear_share n (Showing p) = Got p

-- what a hub keeps of a gear in an act, by its own state
abbrev pub shown_share : HubState → Answer → Share
shown_share h (ans.Shown l) = Got (shown_by h l)
shown_share h _ = NoShare

abbrev pub hub_share : HubState → ℕ → Handed → Answer → Share
hub_share h g (Plain x) r = shown_share h r
hub_share h g (Drains f) r = Gave (f g)
hub_share h g Drained r = NoShare
hub_share h g (Showing p) r = NoShare

-- and what a gear keeps of another in an act whose home it is
abbrev pub written_share : Option SiteInput → Answer → Share
written_share o (ans.Wrote l) = Got (written_by o l)
written_share o _ = NoShare

abbrev pub home_gear_share : Act → Handed → Answer → Share
home_gear_share a (Plain x) r = written_share (input_of a x) r
home_gear_share a _ r = NoShare

-- what the home of an act keeps of gear g in it, by what stands before it there
abbrev pub home_share : Deployed → Node → List Piece → ℕ → Piece → Share
home_share d (AtHub i) before g k = hub_share (hub_after d i before) g k.handed k.answer
home_share d (AtGear i h) before g k = home_gear_share k.act k.handed k.answer
home_share d _ before g k = NoShare

-- a gear's piece of an act of this home, with the same number, act, answer and share
pub record IsSamePart (d : Deployed) (lists : Node →
    List Piece) (q : Node) (i g : ℕ) (before : List Piece) (k : Piece) : Type 0 where
  pub piece : Piece
  pub former : List Piece
  pub there : StandsIn (lists (AtGear i g)) former piece
  pub one : AreOne piece k
  pub share : gear_share (gear_after d g former) piece.handed ≡ home_share d q before g k

abbrev pub AllSameParts : Deployed → (Node → List Piece) → Node → List Piece → Piece → Type 0
AllSameParts d lists q before k = (i g : ℕ) → stands_in d (AtGear i g) k ≡ true →
    home_at d (AtGear i g) k ≡ false → IsSamePart d lists q i g before k

-- where the other gears of each act kept the same parts of it as its home, the act is joined
abbrev pub SamePartsJoin : Type 0
SamePartsJoin = (d : Deployed) (lists : Node → List Piece) (q : Node) (before : List Piece) (k : Piece) →
    IsHomeAnswer d q before k → AllSameParts d lists q before k → AllJoin d lists q before k

-- another act needs nothing
abbrev pub OthersJoin : Type 0
OthersJoin = (d : Deployed) (lists : Node → List Piece) (q : Node) (before : List Piece) (k : Piece) →
    is_shared k.act ≡ false → AllJoin d lists q before k

-- a gear's piece that is not at its home, and is one with a piece at its hub, whose home that is, has its home there
abbrev pub CopiesHaveHomes : Type 0
CopiesHaveHomes = (d : Deployed) (lists : Node → List Piece) (i g : ℕ) (k j : Piece) →
    stands_in d (AtGear i g) k ≡ true → home_at d (AtGear i g) k ≡ false → In (lists (AtHub i)) j →
    home_at d (AtHub i) j ≡ true → AreOne k j → HasHome d lists (AtGear i g) k

-- and a gear's piece of a write of several items that was done elsewhere has its home there, where the gear has one
-- of them
abbrev pub WrittenHaveHomes : Type 0
WrittenHaveHomes = (d : Deployed) (lists : Node →
    List Piece) (i g h c : ℕ) (items : Items) (values : List (List ℕ)) (l : Label) (k j : Piece) →
    k.act ≡ act.Writes c items values → k.answer ≡ ans.Wrote l →
    has same_node (gear_nodes i (item_gears d i (list_of items))) (AtGear i g) ≡ true →
    In (lists (AtGear i h)) j → home_at d (AtGear i h) j ≡ true → AreOne k j → HasHome d lists (AtGear i g) k
