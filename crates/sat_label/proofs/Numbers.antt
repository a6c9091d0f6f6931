-- The numbers below one, in order.
use Rattle.std.proofs.Common.{ℕ, zero, suc, ◌≡◌, ◌<◌, ◌≤◌, ◌+◌, inl, inr, List, [], ◌∷◌, ◌++◌, length, map, Some, slice_get, length-append, refl, arith, ap, ◌∙◌}
use Rattle.std.proofs.Math.Nat.{eq-or-lt_of_le}
use Rattle.sat_label.specs.Words.{below}

pub length-below : (n : ℕ) → length (below n) ≡ n
length-below zero = refl
length-below (suc n) = let e = length-below n in omega (arith, length-append (below n) (n ∷ []))

pub get-front : {X : Type 0} (xs ys : List X) (k : ℕ) → k < length xs → slice_get (xs ++ ys) k ≡ slice_get xs k
get-front [] ys k less = absurd (omega arith)
get-front (x ∷ xs) ys zero less = refl
get-front (x ∷ xs) ys (suc k) less = get-front xs ys k (omega arith)

pub get-after : {X : Type 0} (xs ys : List X) (k : ℕ) → slice_get (xs ++ ys) (length xs + k) ≡ slice_get ys k
get-after [] ys k = let e : zero + k ≡ k = omega arith in rw e refl
get-after (x ∷ xs) ys k = let e : suc (length xs) + k ≡ suc (length xs + k) = omega arith in rw e (get-after xs ys k)

-- the number at each place is the place
pub below-get : (n k : ℕ) → k < n → slice_get (below n) k ≡ Some k
below-get zero k less = absurd (omega arith)
below-get (suc n) k less = elim (eq-or-lt_of_le (let most : k ≤ n = omega arith in most)) [
  | inl same ↦ last same
  | inr under ↦ get-front (below n) (n ∷ []) k (rw (length-below n) under) ∙ below-get n k under
]
  where
    last : k ≡ n → slice_get (below n ++ n ∷ []) k ≡ Some k
    last same = let e : k ≡ length (below n) + 0 = omega (arith, length-below n) in rw e (get-after (below n) (n ∷ []) 0 ∙ ap Some (omega (arith, length-below n)))

pub get-map : {X Y : Type 0} (f : X → Y) (xs : List X) (k : ℕ) (x : X) → slice_get xs k ≡ Some x → slice_get (map f xs) k ≡ Some (f x)
get-map f [] k x at = absurd (cc)
get-map f (y ∷ ys) zero x at = let e : y ≡ x = cc in ap (λ z. Some (f z)) e
get-map f (y ∷ ys) (suc k) x at = get-map f ys k x at
