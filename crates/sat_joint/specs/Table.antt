-- The table of the nodes of each act, its home first.
use Rattle.std.specs.Prelude.{ℕ, Bool, true, false, ◌&&◌, ◌==◌, List, [], ◌∷◌, Option, Some, None}
use Rattle.sat_label.specs.declared.items.Items.{Items}
use Rattle.sat_label.specs.declared.node.NodeId.{NodeId}
use Rattle.sat_label.specs.declared.node.NodeId.TheVariants.{Site, Serializer}
use Rattle.sat_label.specs.Grouped.{list_of}
use Rattle.sat_label.specs.Words.{below, has}
use Rattle.sat_act.specs.declared.act.Act.{Act}
use Rattle.sat_act.specs.declared.act.Act.TheVariants as act
use Rattle.sat_act.specs.declared.answer.Answer.{Answer}
use Rattle.sat_act.specs.declared.answer.Answer.TheVariants as ans
use Rattle.sat_act.specs.declared.entry.Entry.{Entry}
use Rattle.sat_act.specs.Deployed.{Deployed}
use Rattle.sat_act.specs.Answers.{gear_of}
use Rattle.sat_act.specs.Parts.{items_of, replicates}
use Rattle.sat_model.specs.Reply.{gear_for}
use Rattle.sat_stitch.specs.Kept.{Given, OfClient, Kept}
use Rattle.sat_stitch.specs.Places.{Place, AtSite, AtSerializer, InSession, act_given, entry_if}
use Rattle.sat_joint.specs.Pieces.{Piece, plain}

-- the hub of a site, a gear of a site, a serializer of an epoch's tree, or a client's session
pub data Node : Type 0 where
  AtHub : (site : ℕ) → Node
  AtGear : (site gear : ℕ) → Node
  AtSerial : (epoch number : ℕ) → Node
  Alone : (client : ℕ) → Node

abbrev pub same_node : Node → Node → Bool
same_node (AtHub i) (AtHub k) = i == k
same_node (AtGear i g) (AtGear k h) = (i == k) && (g == h)
same_node (AtSerial e y) (AtSerial f z) = (e == f) && (y == z)
same_node (Alone b) (Alone c) = b == c
same_node _ _ = false

-- whose entries those of a node are, where a site is one node
abbrev pub over : Node → Place
over (AtHub i) = AtSite i
over (AtGear i g) = AtSite i
over (AtSerial e z) = AtSerializer e z
over (Alone c) = InSession c

abbrev pub item_node : Deployed → ℕ → ℕ → Node
item_node d x i = AtGear i (gear_of d x)

abbrev pub first_node : ℕ → Node
first_node i = AtGear i 0

-- an act that uses a seat stands at the node that the seat has for it, else in the session alone
abbrev pub seat_nodes : ℕ → (ℕ → Node) → Option ℕ → List Node
seat_nodes c at None = Alone c ∷ []
seat_nodes c at (Some i) = at i ∷ []

abbrev pub attach_nodes : ℕ → ℕ → Option ℕ → List Node
attach_nodes c j None = AtHub j ∷ []
attach_nodes c j (Some i) = Alone c ∷ []

abbrev pub client_nodes : (Option ℕ → List Node) → Given → List Node
client_nodes f (OfClient seen seat) = f seat
client_nodes f _ = []

abbrev pub gear_nodes : ℕ → List ℕ → List Node
gear_nodes i [] = []
gear_nodes i (g ∷ gs) = AtGear i g ∷ gear_nodes i gs

abbrev pub gears_if : Bool → ℕ → List ℕ → List ℕ
gears_if true g gs = g ∷ gs
gears_if false g gs = gs

-- the gears of those of these items that site i keeps, one for each item
abbrev pub item_gears : Deployed → ℕ → List ℕ → List ℕ
item_gears d i [] = []
item_gears d i (x ∷ xs) = gears_if (replicates d x i) (gear_of d x) (item_gears d i xs)

-- the gears of the items that an answer shows
abbrev pub shown_nodes : Deployed → ℕ → Answer → List Node
shown_nodes d j (ans.Shown l) = gear_nodes j (item_gears d j (items_of l.kind))
shown_nodes d j _ = []

-- the gears of the items that were written at site i. Beside a refusal there are none
abbrev pub written_nodes : Deployed → ℕ → Items → Answer → List Node
written_nodes d i items (ans.Wrote l) = gear_nodes i (item_gears d i (list_of items))
written_nodes d i items _ = []

-- a write of several items: the least item's gear, which answers, and the gears of what was written
abbrev pub group_nodes : Deployed → ℕ → Items → Answer → Option ℕ → List Node
group_nodes d c items r None = Alone c ∷ []
group_nodes d c items r (Some i) = AtGear i (gear_for d items) ∷ written_nodes d i items r

-- the nodes of an act, by what it uses and its answer: its home first, then the others, of which one may stand in
-- the list again. Running nodes have neither clocks nor settles
abbrev pub nodes : Deployed → Act → Given → Answer → List Node
nodes d (act.Tick i g t) x r = AtGear i g ∷ []
nodes d (act.Write c y value) x r = client_nodes (seat_nodes c (item_node d y)) x
nodes d (act.Writes c items values) x r = client_nodes (group_nodes d c items r) x
nodes d (act.Read c y) x r = client_nodes (seat_nodes c (item_node d y)) x
nodes d (act.Move c j) x r = client_nodes (seat_nodes c first_node) x
nodes d (act.Leave c) x r = Alone c ∷ []
nodes d (act.Attach c j) x r = client_nodes (attach_nodes c j) x
nodes d (act.Gather i) x r = AtHub i ∷ gear_nodes i (below d.gears)
nodes d (act.Emit i) x r = AtHub i ∷ []
nodes d (act.Pulse i) x r = AtHub i ∷ []
nodes d (act.Hop e u z) x r = AtSerial e z ∷ []
nodes d (act.Turn j) x r = AtHub j ∷ shown_nodes d j r
nodes d (act.Bulk i g j o) x r = AtHub j ∷ []
nodes d (act.Beat i j) x r = AtHub i ∷ []
nodes d (act.BeatIn i j n) x r = AtHub j ∷ []
nodes d (act.Stamp j) x r = AtHub j ∷ shown_nodes d j r
nodes d (act.Close i) x r = AtHub i ∷ []
nodes d (act.Fall j) x r = AtHub j ∷ []
nodes d (act.Advance j) x r = AtHub j ∷ []
nodes d (act.Kill e z) x r = AtSerial e z ∷ []
nodes d act.Clock x r = []
nodes d act.Settle x r = []

-- acts that may have several nodes
abbrev pub is_shared : Act → Bool
is_shared (act.Gather i) = true
is_shared (act.Turn i) = true
is_shared (act.Stamp i) = true
is_shared (act.Writes c items values) = true
is_shared _ = false

abbrev pub is_first : Node → List Node → Bool
is_first p [] = false
is_first p (q ∷ qs) = same_node q p

-- whether an entry stands at a node, and whether that is its home
abbrev pub node_at : Deployed → Node → Kept → Bool
node_at d p k = has same_node (nodes d k.act k.given k.answer) p

abbrev pub stands_in : Deployed → Node → Piece → Bool
stands_in d p k = node_at d p (plain k)

-- whether a node is the home of a piece
abbrev pub home_at : Deployed → Node → Piece → Bool
home_at d p k = is_first p (nodes d (plain k).act (plain k).given (plain k).answer)

-- the node of a tree, in the tree of an epoch
abbrev pub link_node : ℕ → NodeId → Node
link_node e (Site i) = AtHub i
link_node e (Serializer z) = AtSerial e z

-- the part of a history at a node
unfoldable pub node_part : Deployed → List Entry → Node → List Entry
node_part d [] p = []
node_part d (e ∷ h) p = entry_if (has same_node (nodes d e.act (act_given d h e.act) e.answer) p) e (node_part d h p)
