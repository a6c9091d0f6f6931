-- Places in a list of nodes, and changes at places. Only the proofs of bodies speak of them.
use Rattle.std.specs.Prelude.{ℕ, ◌<◌, ◌+◌, ◌*◌, Bool, List, [], ◌∷◌, length, filter, map, get_or, set, Option}
use Rattle.std.specs.List.{All, position}
use Rattle.sat_label.specs.declared.label.Label.{Label}
use Rattle.sat_label.specs.declared.node.NodeId.{NodeId}
use Rattle.sat_label.specs.declared.node.NodeId.TheVariants.{Site, Serializer}
use Rattle.sat_label.specs.Order.{node_eq}
use Rattle.sat_label.specs.Words.{below}
use Rattle.sat_queue.specs.Queued.{Queued, HasRoom}
use Rattle.sat_tree.specs.Shape.{TreeShape}
use Rattle.sat_tree.specs.Cut.{neighbours}

-- whether the node at a place passes the test
abbrev pub hit_at : (NodeId → Bool) → List NodeId → ℕ → Bool
hit_at test nodes k = test (get_or nodes k (Site 0))

-- the places of the nodes that pass the test, ascending
abbrev pub hits : (NodeId → Bool) → List NodeId → List ℕ
hits test nodes = filter (hit_at test nodes) (below (length nodes))

-- the nodes at some places
abbrev pub nodes_at : List NodeId → List ℕ → List NodeId
nodes_at nodes places = map (λ k. get_or nodes k (Site 0)) places

-- the outboxes after a change of those at some places, one after another
abbrev pub changed_at : (List Label → List Label) → List ℕ → List (List Label) → List (List Label)
changed_at change [] boxes = boxes
changed_at change (k ∷ places) boxes = changed_at change places (set boxes k (change (get_or boxes k [])))

-- there are so many things or more that each of these places has one
abbrev pub AllInside : ℕ → List ℕ → Type 0
AllInside n places = All (λ k. k < n) places

-- each place comes before those behind it
abbrev pub Ascending : List ℕ → Type 0
Ascending places = (i j d : ℕ) → i < j → j < length places → get_or places i d < get_or places j d

-- the queue at a place has room for one more
abbrev pub HasRoomAt : List (Queued Label) → ℕ → Type 0
HasRoomAt queues k = (d : Queued Label) → HasRoom (get_or queues k d)

-- for each number of a site, and of a serializer, the place of that node among the neighbours of serializer z
abbrev pub site_place : TreeShape → ℕ → ℕ → Option ℕ
site_place t z k = position (node_eq (Site k)) (neighbours t z)

abbrev pub serializer_place : TreeShape → ℕ → ℕ → Option ℕ
serializer_place t z k = position (node_eq (Serializer k)) (neighbours t z)

-- a number of its own for each node
abbrev pub code : NodeId → ℕ
code (Site i) = 2 * i
code (Serializer z) = 2 * z + 1
