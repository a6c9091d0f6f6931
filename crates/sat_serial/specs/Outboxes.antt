-- Serializers, and what happens to their outboxes.
use Rattle.std.specs.Prelude.{ℕ, ◌≡◌, ◌<◌, ◌≤◌, Bool, false, List, [], ◌∷◌, ◌++◌, length, take, drop, replicate}
use Rattle.std.specs.Prelude.{if◌then◌else◌}
use Rattle.sat_label.specs.declared.label.Label.{Label}
use Rattle.sat_label.specs.declared.node.NodeId.{NodeId}
use Rattle.sat_label.specs.Order.{node_eq}
use Rattle.sat_sites.specs.Interested.{Interested}
use Rattle.sat_tree.specs.Shape.{TreeShape}
use Rattle.sat_tree.specs.Cut.{neighbours}
use Rattle.sat_serial.specs.Routes.{goes, IsNeighbour}

-- a serializer: its tree, its number there, whether it was killed, and the labels in the outbox of each neighbour, the
-- oldest first, in the order of the neighbours
pub record SerializerSeen : Type 0 where
  pub tree : TreeShape
  pub number : ℕ
  pub killed : Bool
  pub outboxes : List (List Label)

-- its number is one of the tree's, and it has an outbox for each neighbour
pub record IsSerializer (s : SerializerSeen) : Type 0 where
  pub inner : s.number < length s.tree.parents
  pub each : length s.outboxes ≡ length (neighbours s.tree s.number)

-- alive, and with empty outboxes
abbrev pub fresh : TreeShape → ℕ → SerializerSeen
fresh t z = record { tree = t; number = z; killed = false; outboxes = replicate (length (neighbours t z)) [] }

-- the outboxes of these nodes, after a change of each whose node passes the test
abbrev pub change_where : {X : Type 0} → (X → Bool) → (List Label → List Label) → List X → List (List Label)
    → List (List Label)
change_where test change [] boxes = boxes
change_where test change (v ∷ nodes) [] = []
change_where test change (v ∷ nodes) (box ∷ boxes) =
    (if test v then change box else box) ∷ change_where test change nodes boxes

-- the outbox of node v, the first of that node, among those of these nodes
abbrev pub box_of : NodeId → List NodeId → List (List Label) → List Label
box_of v [] boxes = []
box_of v (u ∷ nodes) [] = []
box_of v (u ∷ nodes) (box ∷ boxes) = if node_eq v u then box else box_of v nodes boxes

-- the outboxes of these nodes without the oldest label for v
abbrev pub boxes_without : NodeId → List NodeId → List (List Label) → List (List Label)
boxes_without v [] boxes = boxes
boxes_without v (u ∷ nodes) [] = []
boxes_without v (u ∷ nodes) (box ∷ boxes) =
    if node_eq v u then drop 1 box ∷ boxes else box ∷ boxes_without v nodes boxes

-- the outboxes of these nodes, with these labels in that of v, the first of that node
abbrev pub box_in : NodeId → List Label → List NodeId → List (List Label) → List (List Label)
box_in v ls [] boxes = boxes
box_in v ls (u ∷ nodes) [] = []
box_in v ls (u ∷ nodes) (box ∷ boxes) = if node_eq v u then ls ∷ boxes else box ∷ box_in v ls nodes boxes

-- what stands in the outbox of a neighbour
abbrev pub outbox : SerializerSeen → NodeId → List Label
outbox s v = box_of v (neighbours s.tree s.number) s.outboxes

-- a copy of a label that came from u in the outbox of each neighbour that it goes on to
abbrev pub after_handle : SerializerSeen → Interested → NodeId → Label → SerializerSeen
after_handle s a u l =
    record s {
      outboxes = change_where (goes a s.tree s.number u l) (λ box. box
          ++ l ∷ []) (neighbours s.tree s.number) s.outboxes;
    }

-- the oldest label for a neighbour taken out
abbrev pub after_ship : SerializerSeen → NodeId → SerializerSeen
after_ship s v = record s { outboxes = boxes_without v (neighbours s.tree s.number) s.outboxes }

-- these labels stand in the outbox of a neighbour
abbrev pub with_box : SerializerSeen → NodeId → List Label → SerializerSeen
with_box s v ls = record s { outboxes = box_in v ls (neighbours s.tree s.number) s.outboxes }

-- copies of labels that came from u, one label after another
abbrev pub after_handles : SerializerSeen → Interested → NodeId → List Label → SerializerSeen
after_handles s a u [] = s
after_handles s a u (l ∷ ls) = after_handles (after_handle s a u l) a u ls

-- of these labels from u the first n were handed on, and the others are left
pub record HandsOnSome (s : SerializerSeen) (a : Interested) (u : NodeId) (ls : List Label) (n : ℕ)
    (t : SerializerSeen) (rest : List Label) : Type 0 where
  pub many : n ≤ length ls
  pub after : t ≡ after_handles s a u (take n ls)
  pub left : rest ≡ drop n ls

-- What the two changes do to the outbox of each neighbour of a serializer: a label goes
-- last into just the outboxes of the neighbours that it goes on to, and the first leaves just the outbox that is
-- shipped.
pub record EachOutbox : Type 0 where
  pub handles : (s : SerializerSeen) (a : Interested) (u v : NodeId) (l : Label) → IsSerializer s
      → IsNeighbour s.tree s.number v →
      outbox (after_handle s a u l) v ≡ (if goes a s.tree s.number u l v then outbox s v ++ l ∷ [] else outbox s v)
  pub ships : (s : SerializerSeen) (to v : NodeId) → outbox (after_ship s to) v
      ≡ (if node_eq to v then drop 1 (outbox s v) else outbox s v)
