-- A change at one place of a list.
use Rattle.std.proofs.Common.{◌≡◌, ◌⊎◌, ◌<◌, ◌≤◌, ℕ, zero, suc, ◌==◌, Bool, true, false, List, [], ◌∷◌, length, set, replicate, slice_get, Some, None, inl, inr, refl, sym, ap, subst, ◌∙◌, arith, length-set}
use Rattle.std.proofs.lemmas.Option.{slice_get_within}
use Rattle.sat_chain_laws.proofs.Lists.{some_is}
use Rattle.std.proofs.lemmas.Bool.Decides.{nat_tests}

pub self-test : (n : ℕ) → (n == n) ≡ true
self-test n = grind (arith, nat_tests)

pub get-set : {X : Type 0} (xs : List X) (i : ℕ) (x : X) → i < length xs → slice_get (set xs i x) i ≡ Some x
get-set [] i x lt = absurd (omega arith)
get-set (z ∷ xs) zero x lt = refl
get-set (z ∷ xs) (suc i) x lt = get-set xs i x (omega arith)

pub set-there : {X : Type 0} (xs : List X) (i k : ℕ) (x : X) → (i == k) ≡ false → slice_get (set xs i x) k ≡ slice_get xs k
set-there [] i k x ne = refl
set-there (z ∷ xs) zero zero x ne = absurd (let t : (0 == 0) ≡ true = self-test 0 in cc)
set-there (z ∷ xs) zero (suc k) x ne = refl
set-there (z ∷ xs) (suc i) zero x ne = refl
set-there (z ∷ xs) (suc i) (suc k) x ne = set-there xs i k x (less i k ne)
  where
    less : (i k : ℕ) → (suc i == suc k) ≡ false → (i == k) ≡ false
    less i k e = grind (arith, nat_tests)

-- what stands behind the end
pub get-past : {X : Type 0} (xs : List X) (k : ℕ) → length xs ≤ k → slice_get xs k ≡ None
get-past [] k le = refl
get-past (x ∷ xs) zero le = absurd (omega arith)
get-past (x ∷ xs) (suc k) le = get-past xs k (omega arith)

-- what stands in a list of one thing
pub get-copies : {X : Type 0} (n k : ℕ) (x : X) → k < n → slice_get (replicate n x) k ≡ Some x
get-copies zero k x lt = absurd (omega arith)
get-copies (suc n) zero x lt = refl
get-copies (suc n) (suc k) x lt = get-copies n k x (omega arith)

pub within : {X : Type 0} (xs : List X) (i : ℕ) (x : X) → slice_get xs i ≡ Some x → i < length xs
within xs i x e = slice_get_within xs i x e

-- what stands in a list after a change of one place
pub set-cases : {X : Type 0} (xs : List X) (i k : ℕ) (x y : X) → slice_get (set xs i x) k ≡ Some y → ((i ≡ k) × (x ≡ y)) ⊎ (((i == k) ≡ false) × (slice_get xs k ≡ Some y))
set-cases {X} xs i k x y e = go (i == k) refl
  where
    go : (b : Bool) → (i == k) ≡ b → ((i ≡ k) × (x ≡ y)) ⊎ (((i == k) ≡ false) × (slice_get xs k ≡ Some y))
    go true w =
        let same : i ≡ k = grind (arith, nat_tests) in
        let lt : k < length xs = let n : length (set xs i x) ≡ length xs = length-set xs i x in let low : k < length (set xs i x) = within (set xs i x) k y e in omega arith in
        inl (same, some_is x y (sym (get-set xs i x (subst (λ (n : ℕ). n < length xs) (sym same) lt)) ∙ ap (slice_get (set xs i x)) same ∙ e))
    go false w = inr (w, sym (set-there xs i k x w) ∙ e)
