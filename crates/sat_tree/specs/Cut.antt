-- A tree cut at an edge.
use Rattle.std.specs.Prelude.{ℕ, zero, suc, Bool, false, ◌||◌, not, ◌==◌, List, [], ◌∷◌, ◌++◌, length, map, filter}
use Rattle.std.specs.Prelude.{Option, ◌≡◌, ◌<◌, Some, None, slice_get, if◌then◌else◌, unwrap_or}
use Rattle.sat_label.specs.declared.node.NodeId.{NodeId}
use Rattle.sat_label.specs.declared.node.NodeId.TheVariants.{Site, Serializer}
use Rattle.sat_label.specs.Order.{node_eq}
use Rattle.sat_label.specs.Words.{below, has}
use Rattle.sat_tree.specs.Shape.{TreeShape}

-- the serializer that z hangs on, if it is not the root
unfoldable pub parent_of : List (Option ℕ) → ℕ → Option ℕ
parent_of parents z = unwrap_or (slice_get parents z) None

-- a serializer and those above it, up to the root, in at most n steps
unfoldable pub chain : ℕ → List (Option ℕ) → ℕ → List ℕ
unfolding parent_of
chain zero parents z = z ∷ []
chain (suc n) parents z = z ∷ elim (parent_of parents z) [ None ↦ [] | Some p ↦ chain n parents p ]

unfoldable pub seat_of : TreeShape → ℕ → ℕ
seat_of t i = unwrap_or (slice_get t.seats i) 0

-- the serializers above a node, itself among them
unfoldable pub above : TreeShape → NodeId → List ℕ
unfolding seat_of chain
above t (Site i) = chain (length t.parents) t.parents (seat_of t i)
above t (Serializer z) = chain (length t.parents) t.parents z

-- whether a node hangs, at any depth, on the node n, or is n
unfoldable pub under : TreeShape → NodeId → NodeId → Bool
unfolding above
under t (Site i) u = node_eq (Site i) u
under t (Serializer z) u = has ◌==◌ (above t u) z

-- the node above
unfoldable pub over : TreeShape → NodeId → Option ℕ
unfolding seat_of parent_of
over t (Site i) = Some (seat_of t i)
over t (Serializer z) = parent_of t.parents z

unfoldable pub hangs_on : TreeShape → NodeId → NodeId → Bool
unfolding over
hangs_on t v (Site i) = false
hangs_on t v (Serializer z) = has ◌==◌ (elim (over t v) [ None ↦ [] | Some p ↦ p ∷ [] ]) z

-- whether two nodes are neighbours in a tree, in either direction
unfoldable pub is_edge : TreeShape → NodeId → NodeId → Bool
unfolding hangs_on
is_edge t u v = hangs_on t u v || hangs_on t v u

-- whether a node is on v's side when the edge between u and v is cut
unfoldable pub beyond : TreeShape → NodeId → NodeId → NodeId → Bool
unfolding hangs_on under
beyond t u v k = if hangs_on t v u then under t v k else not (under t u k)

-- the neighbours of a serializer: sites, and then serializers
unfoldable pub neighbours : TreeShape → ℕ → List NodeId
unfolding is_edge
neighbours t z =
    filter (λ n. is_edge t (Serializer z) n) (map Site (below (length t.seats))
    ++ map Serializer (below (length t.parents)))

-- a site or a serializer of the tree
abbrev pub IsNode : TreeShape → NodeId → Type 0
IsNode t (Site i) = i < length t.seats
IsNode t (Serializer z) = z < length t.parents

-- parents have smaller numbers, all serializers but the root have one, and seats are serializers
pub record IsTree (t : TreeShape) : Type 0 where
  pub down : (z p : ℕ) → parent_of t.parents z ≡ Some p → p < z
  pub inner : (z p : ℕ) → parent_of t.parents z ≡ Some p → z < length t.parents
  pub hung : (z : ℕ) → 0 < z → z < length t.parents → (p : ℕ) × (parent_of t.parents z ≡ Some p)
  pub seats : (i : ℕ) → seat_of t i < length t.parents
