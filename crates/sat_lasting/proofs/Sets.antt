-- A change at one place of a list.
use Rattle.std.proofs.Common.{◌≡◌, ◌<◌, ℕ, zero, suc, ◌==◌, true, false, List, [], ◌∷◌, length, set, replicate, slice_get, Some, refl, arith}
use Rattle.std.proofs.lemmas.Bool.Decides.{nat_tests}

pub self-test : (n : ℕ) → (n == n) ≡ true
self-test n = grind (arith, nat_tests)

pub same-number : (n m : ℕ) → (n == m) ≡ true → n ≡ m
same-number n m e = grind (arith, nat_tests, e)

pub same-some : {X : Type 0} (x y : X) → Some x ≡ Some y → x ≡ y
same-some x y e = cc

pub get-set : {X : Type 0} (xs : List X) (i : ℕ) (x : X) → i < length xs → slice_get (set xs i x) i ≡ Some x
get-set [] i x lt = absurd (omega arith)
get-set (z ∷ xs) zero x lt = refl
get-set (z ∷ xs) (suc i) x lt = get-set xs i x (omega arith)

pub set-there : {X : Type 0} (xs : List X) (i k : ℕ) (x : X) → (i == k) ≡ false → slice_get (set xs i x) k ≡ slice_get xs k
set-there [] i k x ne = refl
set-there (z ∷ xs) zero zero x ne = absurd (let t : (0 == 0) ≡ true = self-test 0 in cc)
set-there (z ∷ xs) zero (suc k) x ne = refl
set-there (z ∷ xs) (suc i) zero x ne = refl
set-there (z ∷ xs) (suc i) (suc k) x ne = set-there xs i k x (less i k ne)
  where
    less : (i k : ℕ) → (suc i == suc k) ≡ false → (i == k) ≡ false
    less i k e = grind (arith, nat_tests)

pub get-copies : {X : Type 0} (n k : ℕ) (x : X) → k < n → slice_get (replicate n x) k ≡ Some x
get-copies zero k x lt = absurd (omega arith)
get-copies (suc n) zero x lt = refl
get-copies (suc n) (suc k) x lt = get-copies n k x (omega arith)

-- what stands at a place
pub get-within : {X : Type 0} (xs : List X) (i : ℕ) → i < length xs → (x : X) × (slice_get xs i ≡ Some x)
get-within [] i lt = absurd (omega arith)
get-within (z ∷ xs) zero lt = (z, refl)
get-within (z ∷ xs) (suc i) lt = get-within xs i (omega arith)
