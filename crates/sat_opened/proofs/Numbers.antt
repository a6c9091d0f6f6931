-- Tests on numbers.
use Rattle.std.proofs.Common.{◌≡◌, ◌<◌, ◌≤◌, ℕ, Bool, true, false, ◌==◌, ◌&&◌, not, nat_lt, nat_le, refl, sym, arith}
use Rattle.std.proofs.lemmas.Bool.Decides.{nat_tests}

pub same-turned : (a b : ℕ) → (a == b) ≡ (b == a)
same-turned a b = grind (arith, nat_tests)

pub same-is : (a b : ℕ) → (a == b) ≡ true → a ≡ b
same-is a b e = grind (arith, nat_tests)

pub differ : (a b : ℕ) → (a ≡ b → ⊥) → (a == b) ≡ false
differ a b f = go (a == b) refl
  where
    go : (t : Bool) → (a == b) ≡ t → t ≡ false
    go true e = absurd (f (same-is a b e))
    go false e = refl

pub and-no : (b : Bool) → (b && false) ≡ false
and-no true = refl
and-no false = refl

pub and-yes : (b : Bool) → (b && true) ≡ b
and-yes true = refl
and-yes false = refl

pub less-is : (a b : ℕ) → nat_lt a b ≡ true → a < b
less-is a b e = grind (arith, nat_tests)

pub is-less : (a b : ℕ) → a < b → nat_lt a b ≡ true
is-less a b e = grind (arith, nat_tests)

pub not-is : (b : Bool) → not b ≡ true → b ≡ false
not-is true e = sym e
not-is false e = refl

pub at-most : (a b : ℕ) → nat_le a b ≡ true → a ≤ b
at-most a b e = grind (arith, nat_tests)

pub not-less : (a b : ℕ) → b ≤ a → nat_lt a b ≡ false
not-less a b e = grind (arith, nat_tests)

pub above-is : (i j : ℕ) → nat_lt j i ≡ false → (j == i) ≡ false → i < j
above-is i j a b = grind (arith, nat_tests)
