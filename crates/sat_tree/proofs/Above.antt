-- The serializers above one.
use Rattle.std.proofs.Common.{ℕ, ◌≡◌, ◌<◌, ◌≤◌, ◌==◌, Bool, true, false, List, Option, Some, None, length, ◌⊎◌, inl, inr, refl, sym, subst, ◌∙◌, arith}
use Rattle.std.proofs.lemmas.Bool.{false_from_ne_true}
use Rattle.std.proofs.lemmas.Bool.Decides.{nat_tests}
use Rattle.sat_label.specs.Words.{has}
use Rattle.sat_tree.specs.Shape.{TreeShape}
use Rattle.sat_tree.specs.Cut.{parent_of, chain, IsTree}
use Rattle.sat_tree.proofs.Trees.{Chain, here, up, has-chain, chain-has, rank, some_is}

same-bool : (a b : Bool) → (a ≡ true → b ≡ true) → (b ≡ true → a ≡ true) → a ≡ b
same-bool true b f g = sym (f refl)
same-bool false true f g = g refl
same-bool false false f g = refl

-- the way up is at its end, or goes on from the parent
next : (ps : List (Option ℕ)) (c z : ℕ) → Chain ps c z → (c ≡ z) ⊎ ((q : ℕ) × (parent_of ps c ≡ Some q) × Chain ps q z)
next ps c z here = inl refl
next ps c z (up q at rest) = inr (q, at, rest)

from-parent : (ps : List (Option ℕ)) (c z p : ℕ) → Chain ps c z → parent_of ps c ≡ Some p → z < c → Chain ps p z
from-parent ps c z p way is less = elim (next ps c z way) [
  | inl same ↦ absurd (omega arith)
  | inr w ↦ subst (λ (n : ℕ). Chain ps n z) (some_is w.0 p (sym w.1 ∙ is)) w.2
]

-- to go up one step changes nothing for those above
pub above-step : (t : TreeShape) → IsTree t → (z c p : ℕ) → c < length t.parents → z < c → parent_of t.parents c ≡ Some p →
    has ◌==◌ (chain (length t.parents) t.parents p) z ≡ has ◌==◌ (chain (length t.parents) t.parents c) z
above-step t tree z c p within less is =
    let falls = tree.down c p is in
    same-bool _ _ (λ e. chain-has t tree (length t.parents) c z (omega arith) (up p is (has-chain (length t.parents) t.parents p z e))) (λ e. chain-has t tree (length t.parents) p z (omega arith) (from-parent t.parents c z p (has-chain (length t.parents) t.parents c z e) is less))

-- nothing is above the root
pub above-end : (t : TreeShape) (z c : ℕ) → z < c → parent_of t.parents c ≡ None → has ◌==◌ (chain (length t.parents) t.parents c) z ≡ false
above-end t z c less is = false_from_ne_true _ (λ e. elim (next t.parents c z (has-chain (length t.parents) t.parents c z e)) [
  | inl same ↦ omega arith
  | inr w ↦ absurd (let f : parent_of t.parents c ≡ Some w.0 = w.1 in cc)
])

-- what is above a serializer has no greater number
pub above-last : (t : TreeShape) → IsTree t → (z c : ℕ) → c < length t.parents → c ≤ z → has ◌==◌ (chain (length t.parents) t.parents c) z ≡ (c == z)
above-last t tree z c within most =
    same-bool _ _ (λ e. let r = rank t tree c z (has-chain (length t.parents) t.parents c z e) in grind (arith, nat_tests)) (λ e. let same : c ≡ z = grind (arith, nat_tests) in chain-has t tree (length t.parents) c z (omega arith) (subst (λ (n : ℕ). Chain t.parents c n) same here))
