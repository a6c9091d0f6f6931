-- The laws of trees, and the paths in them.
use Rattle.std.specs.Prelude.{◌≡◌, ℕ, true, false, List, [], ◌∷◌}
use Rattle.sat_label.specs.declared.node.NodeId.{NodeId}
use Rattle.sat_label.specs.declared.node.NodeId.TheVariants.{Site}
use Rattle.sat_label.specs.Order.{node_eq}
use Rattle.sat_label.specs.Words.{has}
use Rattle.sat_tree.specs.Shape.{TreeShape}
use Rattle.sat_tree.specs.Cut.{IsTree, IsNode, is_edge, beyond}

-- the laws of a tree that is cut at its edges
pub record IsCuttable (t : TreeShape) : Type 0 where
  pub far : (p q : NodeId) → is_edge t p q ≡ true → beyond t p q q ≡ true
  -- only the edge itself parts its two ends
  pub parts : (w x p q : NodeId) → is_edge t w x ≡ true → is_edge t p q ≡ true → beyond t p q x ≡ true
      → beyond t p q w ≡ false → (p ≡ w) × (q ≡ x)
  -- from a node, a site on its side of an edge lies across another edge, whose near side holds all that lies beyond the
  -- first
  pub first : (u y : NodeId) (s : ℕ) → is_edge t u y ≡ true → beyond t u y (Site s) ≡ false → (Site s ≡ u → ⊥) →
      (w : NodeId) × (is_edge t w u ≡ true) × (beyond t w u (Site s) ≡ false)
      × ((k : ℕ) → beyond t u y (Site k) ≡ true → beyond t w u (Site k) ≡ true)
  -- what lies beyond an edge lies beyond the edge that leads to it
  pub through : (u v w : NodeId) (k : ℕ) → is_edge t u v ≡ true → is_edge t v w ≡ true → (w ≡ u → ⊥)
      → beyond t v w (Site k) ≡ true → beyond t u v (Site k) ≡ true
  pub back : (p q : NodeId) → is_edge t p q ≡ true → is_edge t q p ≡ true
  -- behind a leaf's edge lies the leaf alone
  pub leaf : (p : NodeId) (j k : ℕ) → is_edge t p (Site j) ≡ true → (k ≡ j → ⊥) → beyond t p (Site j) (Site k) ≡ false

-- the nodes of a way from u to v over edges, no node twice
pub data Path (t : TreeShape) : NodeId → NodeId → List NodeId → Type 0 where
  stays : {v : NodeId} → Path t v v (v ∷ [])
  steps : {u x v : NodeId} {nodes : List NodeId} → is_edge t u x ≡ true → has node_eq nodes u ≡ false → Path t x v nodes
      → Path t u v (u ∷ nodes)

-- What this crate proves of every tree: it can be cut at its edges, from each node one path leads to each other site,
-- and the sites beyond an edge are just those whose path begins with it.
pub record IsWellCut (t : TreeShape) : Type 0 where
  pub cuttable : IsCuttable t
  pub some_path : (u : NodeId) (k : ℕ) → IsNode t u → (u ≡ Site k → ⊥) → (nodes : List NodeId) × Path t u (Site k) nodes
  pub one_path : (u : NodeId) (k : ℕ) (nodes others : List NodeId) → Path t u (Site k) nodes → Path t u (Site k) others
      → nodes ≡ others
  pub first_edge : (u x : NodeId) (k : ℕ) (nodes : List NodeId) → Path t u (Site k) (u ∷ x ∷ nodes)
      → beyond t u x (Site k) ≡ true
  pub begins : (u x : NodeId) (k : ℕ) → IsNode t u → is_edge t u x ≡ true → beyond t u x (Site k) ≡ true
      → (nodes : List NodeId) × Path t u (Site k) (u ∷ x ∷ nodes)

abbrev pub EveryTreeIsWellCut : Type 0
EveryTreeIsWellCut = (t : TreeShape) → IsTree t → IsWellCut t
