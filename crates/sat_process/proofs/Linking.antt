-- How many links there are.
use Rattle.std.proofs.Common.{◌≡◌, ℕ, ◌+◌, ◌-◌, ◌^◌, ◌≤◌, ◌<◌, min, suc, zero, List, [], ◌∷◌, length, Option, Some, None, slice_get, arith}

-- both counts, each of at most 65,535
pub both_counts : (a b s t : ℕ) → s ≡ a → t ≡ min b 65535 → min (s + t) 65535 ≡ min (a + b) 65535
both_counts a b s t is same = grind (arith, is, same)

pub none_there : {X : Type 0} (xs : List X) (k : ℕ) → slice_get xs k ≡ None → length xs ≤ k
none_there [] k is = omega arith
none_there (x ∷ xs) zero is = absurd (cc (is))
none_there (x ∷ xs) (suc k) is = omega (arith, none_there xs k is)

pub some_there : {X : Type 0} (xs : List X) (k : ℕ) (x : X) → slice_get xs k ≡ Some x → k < length xs
some_there [] k x is = absurd (cc (is))
some_there (y ∷ xs) zero x is = omega arith
some_there (y ∷ xs) (suc k) x is = omega (arith, some_there xs k x is)

-- all that are there
pub no_more : {X : Type 0} (xs : List X) (k : ℕ) → k ≤ length xs → k < 65535 → slice_get xs k ≡ None → k ≡ min (length xs) 65535
no_more xs k le less is = grind (arith, none_there xs k is, le, less)

pub one_more : {X : Type 0} (xs : List X) (k : ℕ) (x : X) → slice_get xs k ≡ Some x → k + 1 ≤ length xs
one_more xs k x is = omega (arith, some_there xs k x is)

pub all_of : {X : Type 0} (xs : List X) → 65535 ≤ length xs → 65535 ≡ min (length xs) 65535
all_of xs le = grind (arith, le)
