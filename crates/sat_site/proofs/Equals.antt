-- Tests of numbers.
use Rattle.std.specs.Prelude.{◌≡◌, ◌⊎◌, ◌≤◌, ◌<◌, ℕ, zero, suc, true, ◌==◌}
use Rattle.std.proofs.Common.{arith, inl, inr}
use Rattle.std.proofs.lemmas.Bool.Decides.{nat_tests}
use Rattle.sat_label.specs.declared.point.Point.{Point}
use Rattle.sat_label.specs.Order.{point_eq}

pub eqb-self : (n : ℕ) → (n == n) ≡ true
eqb-self n = grind (arith, nat_tests)

pub eqb-comm : (m n : ℕ) → (m == n) ≡ (n == m)
eqb-comm m n = grind (arith, nat_tests)

pub low-or-high : (m n : ℕ) → (m < n) ⊎ (n ≤ m)
low-or-high m zero = inr (omega arith)
low-or-high zero (suc n) = inl (omega arith)
low-or-high (suc m) (suc n) = elim (low-or-high m n) [ inl w ↦ inl (omega arith) | inr w ↦ inr (omega arith) ]

pub eqb-suc : (m n : ℕ) → (suc m == suc n) ≡ (m == n)
eqb-suc m n = grind (arith, nat_tests)

pub point_eq-self : (p : Point) → point_eq p p ≡ true
point_eq-self p = grind (arith, nat_tests)
