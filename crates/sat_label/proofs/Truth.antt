-- Tests on numbers and truth values that the library has no word for.
use Rattle.std.specs.Prelude.{◌≡◌, ℕ, Bool, true, false, ◌||◌, ◌==◌, ◌^◌, Some, None, if◌then◌else◌, refl}
use Rattle.std.proofs.Common.{arith, sym}
use Rattle.std.proofs.lemmas.Bool.Decides.{nat_tests}
use Rattle.sat_label.specs.declared.limits.TheConstants.{TS_END}

-- the last timestamp as a power
pub last-timestamp : TS_END ≡ 2 ^ 62
last-timestamp = refl

-- a number is the same as itself
pub same-number : (n : ℕ) → (n == n) ≡ true
same-number n = grind (arith, nat_tests)

-- two tests of which each holds where the other does are one
pub same-test : (a b : Bool) → (a ≡ true → b ≡ true) → (b ≡ true → a ≡ true) → a ≡ b
same-test true b f g = sym (f refl)
same-test false true f g = g refl
same-test false false f g = refl

pub or-false : (a : Bool) → (a || false) ≡ a
or-false true = refl
or-false false = refl

pub or-true : (a : Bool) → (a || true) ≡ true
or-true true = refl
or-true false = refl

pub or-assoc : (a b c : Bool) → (a || (b || c)) ≡ ((a || b) || c)
or-assoc true b c = refl
or-assoc false b c = refl

-- what a test that holds, or fails, lets through
pub some_if : {X : Type 0} (test : Bool) (x : X) → test ≡ true → (if test then Some x else None) ≡ Some x
some_if true x e = refl
some_if false x e = absurd (cc)
