-- Small words on lists that the definitions share.
use Rattle.std.specs.Prelude.{ℕ, zero, suc, Bool, false, not, ◌||◌, ◌&&◌, ◌==◌, nat_lt, ◌/◌, ◌%◌, ◌^◌, List, [], ◌∷◌}
use Rattle.std.specs.Prelude.{◌++◌, Option, Some, None, if◌then◌else◌}

-- the numbers below n, ascending
abbrev pub below : ℕ → List ℕ
below zero = []
below (suc n) = below n ++ n ∷ []

-- whether an element is this one, by a test of equality
abbrev pub has : {X : Type 0} → (X → X → Bool) → List X → X → Bool
has same [] x = false
has same (y ∷ ys) x = same y x || has same ys x

-- whether a set of sites, as bits, has this one
abbrev pub bit : ℕ → ℕ → Bool
bit bits k = (bits / 2 ^ k) % 2 == 1

-- some site of those below a number, and none else: the set, as bits, is at least 1 and below 2 to that power
abbrev pub are_sites : ℕ → ℕ → Bool
are_sites sites bits = not (bits == 0) && nat_lt bits (2 ^ sites)

-- the first place below n that fails a test
unfoldable pub first_failing : (ℕ → Bool) → ℕ → Option ℕ
first_failing test zero = None
first_failing test (suc n) = elim (first_failing test n) [ Some k ↦ Some k | None ↦ if test n then None else Some n ]
