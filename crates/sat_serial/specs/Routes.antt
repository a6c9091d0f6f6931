-- The ways of a label through a serializer.
use Rattle.std.specs.Prelude.{ℕ, ◌≡◌, Bool, true, ◌&&◌, not, nat_lt, List, length, filter, Some, slice_get}
use Rattle.std.specs.List.{list_any}
use Rattle.sat_label.specs.declared.label.Label.{Label}
use Rattle.sat_label.specs.declared.node.NodeId.{NodeId}
use Rattle.sat_label.specs.declared.node.NodeId.TheVariants.{Site, Serializer}
use Rattle.sat_label.specs.Order.{node_eq}
use Rattle.sat_label.specs.declared.site_set.SiteSet.{SiteSet}
use Rattle.sat_label.specs.Words.{below, bit}
use Rattle.sat_sites.specs.Interested.{Interested, is_for, IsLabelOf}
use Rattle.sat_tree.specs.Shape.{TreeShape}
use Rattle.sat_tree.specs.Cut.{beyond, is_edge, neighbours, IsNode}

-- a serializer's place: a tree, and its number there
pub record Placed : Type 0 where
  pub tree : TreeShape
  pub number : ℕ

-- whether a target of the label lies beyond the edge from u to v
unfoldable pub leads : Interested → TreeShape → NodeId → NodeId → Label → Bool
leads a t u v l = list_any (λ k. is_for a l k && beyond t u v (Site k)) (below a.sites)

-- whether the label, come from u, goes on from serializer z to its neighbour v
abbrev pub goes : Interested → TreeShape → ℕ → NodeId → Label → NodeId → Bool
goes a t z u l v = not (node_eq u v) && leads a t (Serializer z) v l

-- the neighbours that the label, come from u, goes on to from serializer z
abbrev pub routes : Interested → TreeShape → ℕ → NodeId → Label → List NodeId
routes a t z u l = filter (goes a t z u l) (neighbours t z)

-- these are the sites of the tree beyond the edge from serializer z to v
abbrev pub IsFarSide : TreeShape → ℕ → NodeId → SiteSet → Type 0
IsFarSide t z v side = (k : ℕ) → bit side.bits k ≡ (nat_lt k (length t.seats) && beyond t (Serializer z) v (Site k))

-- one set for each of these nodes, in their order: the sites beyond it
pub record AreFarSides (t : TreeShape) (z : ℕ) (nodes : List NodeId) (sides : List SiteSet) : Type 0 where
  pub size : length sides ≡ length nodes
  pub each : (k : ℕ) (v : NodeId) (side : SiteSet) → slice_get nodes k ≡ Some v → slice_get sides k ≡ Some side
      → IsFarSide t z v side

-- v is a node of the tree, and hangs together with serializer z
pub record IsNeighbour (t : TreeShape) (z : ℕ) (v : NodeId) : Type 0 where
  pub node : IsNode t v
  pub edge : is_edge t (Serializer z) v ≡ true

-- what serializer z may be handed: with an interest of the tree's sites, a label of it that came from a neighbour u,
-- and of which a target lies beyond the edge from u to z
pub record Arrives (a : Interested) (t : TreeShape) (z : ℕ) (u : NodeId) (l : Label) : Type 0 where
  pub sites : a.sites ≡ length t.seats
  pub label : IsLabelOf a l
  pub neighbour : IsNeighbour t z u
  pub target : leads a t u (Serializer z) l ≡ true
