-- A path leads from each node to each other site, and beyond an edge lie the sites whose path begins with it.
use Rattle.std.proofs.Common.{◌≡◌, ◌≢◌, inl, inr, ◌<◌, ◌≤◌, ◌+◌, ℕ, zero, suc, max, false, List, [], ◌∷◌, ◌++◌, length, Some, refl, sym, ap, subst, arith}
use Rattle.std.proofs.lemmas.Bool.{cases_lt, ne_eqb}
use Rattle.std.proofs.Math.Nat.{eq-or-lt_of_le}
use Rattle.sat_label.specs.declared.node.NodeId.{NodeId}
use Rattle.sat_label.specs.declared.node.NodeId.TheVariants.{Site, Serializer}
use Rattle.sat_label.specs.Order.{node_eq}
use Rattle.sat_label.specs.Words.{has}
use Rattle.sat_tree.specs.Shape.{TreeShape}
use Rattle.sat_tree.specs.Cut.{IsTree, IsNode, parent_of, seat_of}
use Rattle.sat_tree.specs.Laws.{Path, stays, steps}
use Rattle.sat_tree.proofs.Ways.{Lower, lower-more, lower-push, lower-free, lower-no-site, has-append, goes-on, parent-up, parent-down, seat-up, seat-down}

-- a path between two serializers, over no greater number
Joined : TreeShape → ℕ → ℕ → Type 0
Joined t a b = (nodes : List NodeId) × Path t (Serializer a) (Serializer b) nodes × Lower (max a b + 1) nodes

module _ (t : TreeShape) (tree : IsTree t) where
  up-first : (a b p : ℕ) → b < a → parent_of t.parents a ≡ Some p → Joined t p b → Joined t a b
  unfolding Joined
  up-first a b p less is old =
      let falls = tree.down a p is in
      let free = lower-free _ a old.0 old.2 (omega arith) in
      let low : Lower (max a b + 1) old.0 = lower-more _ _ old.0 (omega arith) old.2 in
      (Serializer a ∷ old.0, steps (parent-up t a p is) free old.1, ((a, refl, omega arith), low))

  down-last : (a b p : ℕ) → a < b → parent_of t.parents b ≡ Some p → Joined t a p → Joined t a b
  unfolding Joined
  down-last a b p less is old =
      let falls = tree.down b p is in
      let free = lower-free _ b old.0 old.2 (omega arith) in
      let low : Lower (max a b + 1) old.0 = lower-more _ _ old.0 (omega arith) old.2 in
      (old.0 ++ Serializer b ∷ [], goes-on t _ _ (Serializer b) old.0 old.1 (parent-down t b p is) free, lower-push _ b old.0 low (omega arith))

  alone : (a b : ℕ) → a ≡ b → Joined t a b
  unfolding Joined
  alone a b same =
      let path = subst (λ (n : ℕ). Path t (Serializer a) (Serializer n) (Serializer a ∷ [])) same stays in
      (Serializer a ∷ [], path, ((a, refl, omega arith), tt))

  joined : (fuel a b : ℕ) → a + b ≤ fuel → a < length t.parents → b < length t.parents → Joined t a b
  joined zero a b most here there = alone a b (omega arith)
  joined (suc fuel) a b most here there =
      elim (cases_lt a b) [
        | inl less ↦
            (let p = tree.hung b (omega arith) there in
            let falls = tree.down b p.0 p.1 in
            down-last a b p.0 less p.1 (joined fuel a p.0 (omega arith) here (omega arith)))
        | inr not_less ↦ elim (eq-or-lt_of_le not_less) [
          | inl same ↦ alone a b (sym same)
          | inr less ↦
              (let p = tree.hung a (omega arith) here in
              let falls = tree.down a p.0 p.1 in
              up-first a b p.0 less p.1 (joined fuel p.0 b (omega arith) (omega arith) there))
        ]
      ]

  from-serializer : (z k : ℕ) → z < length t.parents → (nodes : List NodeId) × Path t (Serializer z) (Site k) nodes × ((i : ℕ) → i ≢ k → has node_eq nodes (Site i) ≡ false)
  unfolding Joined
  from-serializer z k within =
      let way : Joined t z (seat_of t k) = joined (z + seat_of t k) z (seat_of t k) (omega arith) within (tree.seats k) in (
        way.0 ++ Site k ∷ [],
        goes-on t (Serializer z) (Serializer (seat_of t k)) (Site k) way.0 way.1 (seat-down t k) (lower-no-site _ k way.0 way.2),
        λ i apart. rw (has-append way.0 (Site k) (Site i), lower-no-site _ i way.0 way.2) (ne_eqb k i (λ e. apart (sym e))),
      )

  pub some-path : (u : NodeId) (k : ℕ) → IsNode t u → (u ≡ Site k → ⊥) → (nodes : List NodeId) × Path t u (Site k) nodes
  some-path (Serializer z) k node apart = let way = from-serializer z k node in (way.0, way.1)
  some-path (Site i) k node apart =
      let way = from-serializer (seat_of t i) k (tree.seats i) in
      (Site i ∷ way.0, steps (seat-up t i) (way.2 i (λ e. apart (ap Site e))) way.1)
