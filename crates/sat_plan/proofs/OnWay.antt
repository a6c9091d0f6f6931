-- An edge lies on the way between two sites just where it is a step of the path between them.
use Rattle.std.proofs.Common.{ℕ, ◌≡◌, Bool, true, false, not, ◌&&◌, ◌||◌, inl, inr, List, [], ◌∷◌, refl, sym, subst}
use Rattle.sat_label.proofs.Truth.{or-true}
use Rattle.sat_label.specs.declared.node.NodeId.{NodeId}
use Rattle.sat_label.specs.declared.node.NodeId.TheVariants.{Site, Serializer}
use Rattle.sat_label.specs.Order.{node_eq}
use Rattle.sat_label.specs.Words.{has}
use Rattle.sat_label.proofs.SameNodes.{node-self}
use Rattle.sat_tree.specs.Shape.{TreeShape}
use Rattle.sat_tree.specs.Cut.{IsTree, is_edge, beyond}
use Rattle.sat_tree.specs.Laws.{IsWellCut, Path, stays, steps}
use Rattle.sat_tree.proofs.Trees.{other-side}
use Rattle.sat_tree.proofs.Unique.{well-cut}
use Rattle.sat_plan.specs.Mismatch.{on_way}
use Rattle.sat_plan.specs.Laws.{Follows, OnWayIsOnPath}

opposite : (a b : Bool) → a ≡ not b → b ≡ true → a ≡ false
opposite a true is far = is
opposite a false is far = absurd (cc)

both : (a b : Bool) → (a && not b) ≡ true → (a ≡ true) × (b ≡ false)
both true false is = (refl, refl)
both true true is = absurd (cc)
both false b is = absurd (cc)

clash : (b : Bool) → b ≡ true → b ≡ false → ⊥
clash b e f = cc

begins-with : (t : TreeShape) (u v : NodeId) (nodes : List NodeId) → Path t u v nodes → (rest : List NodeId) × (nodes ≡ u ∷ rest)
begins-with t u v nodes (stays {v = z}) = ([], refl)
begins-with t u v nodes (steps {u = z} {x = y} {nodes = ns} e new path) = (ns, refl)

later : (u v x : NodeId) (nodes : List NodeId) → Follows u v nodes → Follows u v (x ∷ nodes)
later u v x [] never = never
later u v x (y ∷ nodes) there = inr there

follower-stands : (u v : NodeId) (nodes : List NodeId) → Follows u v nodes → has node_eq nodes v ≡ true
follower-stands u v [] never = absurd never
follower-stands u v (x ∷ []) never = absurd never
follower-stands u v (x ∷ y ∷ nodes) (inl (first, second)) = subst (λ (n : NodeId). (node_eq x n || (node_eq y n || has node_eq nodes n)) ≡ true) (sym second) (rw (node-self y) (or-true (node_eq x y)))
follower-stands u v (x ∷ y ∷ nodes) (inr there) = rw (follower-stands u v (y ∷ nodes) there) (or-true (node_eq x v))

module _ (t : TreeShape) (tree : IsTree t) (p q : NodeId) (edge : is_edge t p q ≡ true) where
  cuts : IsWellCut t
  cuts = well-cut t tree

  near : beyond t p q p ≡ false
  near = opposite (beyond t p q p) (beyond t q p p) (other-side t tree p q p edge) (cuts.cuttable.far q p (cuts.cuttable.back p q edge))

  -- a path that goes from one side to the other goes over the edge
  goes-over : (u v : NodeId) (nodes : List NodeId) → Path t u v nodes → beyond t p q u ≡ false → beyond t p q v ≡ true → Follows p q nodes
  goes-over u v nodes (stays {v = z}) before after = absurd (clash (beyond t p q z) after before)
  goes-over u v nodes (steps {u = z} {x = y} {nodes = ns} e new path) before after = go (beyond t p q y) refl (λ side. goes-over y v ns path side after)
    where
      go : (b : Bool) → beyond t p q y ≡ b → (beyond t p q y ≡ false → Follows p q ns) → Follows p q (z ∷ ns)
      go true side rest =
          let ends = cuts.cuttable.parts z y p q e edge side before in
          let start = begins-with t y v ns path in
          subst (λ (ms : List NodeId). Follows p q (z ∷ ms)) (sym start.1) (inl ends)
      go false side rest = later p q z ns (rest side)

  -- and a path over the edge goes from one side to the other
  has-sides : (u v : NodeId) (k : ℕ) (nodes : List NodeId) → Path t u v nodes → v ≡ Site k → Follows p q nodes → (beyond t p q u ≡ false) × (beyond t p q v ≡ true)
  has-sides u v k nodes (stays {v = z}) site never = absurd never
  has-sides u v k nodes (steps {u = z} {x = y} {nodes = ns} e new path) site over = go (begins-with t y v ns path) (λ f. has-sides y v k ns path site f)
    where
      first : (rest : List NodeId) → ns ≡ y ∷ rest → (p ≡ z) × (q ≡ y) → (beyond t p q z ≡ false) × (beyond t p q v ≡ true)
      first rest is (start, next) =
          let whole : Path t z (Site k) (z ∷ y ∷ rest) = subst (λ (ms : List NodeId). Path t z (Site k) (z ∷ ms)) is (subst (λ (n : NodeId). Path t z n (z ∷ ns)) site (steps e new path)) in
          let far = cuts.first_edge z y k rest whole in (
            subst (λ (n : NodeId). beyond t p q n ≡ false) start near,
            subst (λ (n : NodeId). beyond t p q n ≡ true) (sym site) (subst (λ (n : NodeId). beyond t n q (Site k) ≡ true) (sym start) (subst (λ (n : NodeId). beyond t z n (Site k) ≡ true) (sym next) far)),
          )

      further : Follows p q ns → (beyond t p q y ≡ false) × (beyond t p q v ≡ true) → (beyond t p q z ≡ false) × (beyond t p q v ≡ true)
      further there sides = (side (beyond t p q z) refl, sides.1)
        where
          side : (b : Bool) → beyond t p q z ≡ b → beyond t p q z ≡ false
          side false is = is
          side true is =
              let ends = cuts.cuttable.parts y z p q (cuts.cuttable.back z y e) edge is sides.0 in
              let again = follower-stands p q ns there in
              absurd (clash (has node_eq ns z) (subst (λ (n : NodeId). has node_eq ns n ≡ true) ends.1 again) new)

      go : (rest : List NodeId) × (ns ≡ y ∷ rest) → (Follows p q ns → (beyond t p q y ≡ false) × (beyond t p q v ≡ true)) → (beyond t p q z ≡ false) × (beyond t p q v ≡ true)
      go (rest, is) before = elim (subst (λ (ms : List NodeId). Follows p q (z ∷ ms)) is over) [
        | inl here ↦ first rest is here
        | inr there ↦ let stands = subst (λ (ms : List NodeId). Follows p q ms) (sym is) there in further stands (before stands)
      ]

pub on_way_is_on_path : OnWayIsOnPath
unfolding on_way
on_way_is_on_path t i k z n nodes tree path edge = (
  (λ on. let sides = both (beyond t (Serializer z) n (Site k)) (beyond t (Serializer z) n (Site i)) on in goes-over t tree (Serializer z) n edge (Site i) (Site k) nodes path sides.1 sides.0),
  (λ over. let sides = has-sides t tree (Serializer z) n edge (Site i) (Site k) k nodes path refl over in rw (sides.0, sides.1) refl),
)
