-- So many of a list, from a number on.
use Rattle.std.specs.Prelude.{◌≡◌, ◌≤◌, ◌+◌, ◌-◌, ℕ, zero, suc, List, [], ◌∷◌, ◌++◌, length, min, take, drop, slice_get, Some, None, refl}
use Rattle.std.proofs.Common.{arith, ap, sym, ◌∙◌}
use Rattle.std.proofs.lemmas.List.{length-drop, take_all, take_min}

dropped : {X : Type 0} (n k : ℕ) (xs : List X) → slice_get (drop n xs) k ≡ slice_get xs (n + k)
dropped zero k xs = ap (slice_get xs) (let e : k ≡ zero + k = omega arith in e)
dropped {X = X} (suc n) k [] = none k ∙ sym (none (suc n + k))
  where
    none : (j : ℕ) → slice_get {X = X} [] j ≡ None
    none zero = refl
    none (suc j) = refl
dropped (suc n) k (x ∷ xs) = dropped n k xs ∙ ap (slice_get (x ∷ xs)) (let e : suc (n + k) ≡ suc n + k = omega arith in e)

next : {X : Type 0} (k : ℕ) (xs : List X) (x : X) → slice_get xs k ≡ Some x → take (suc k) xs ≡ take k xs ++ x ∷ []
next k [] x e = absurd (cc)
next {X = X} zero (y ∷ xs) x e = ap (λ (z : X). z ∷ []) (inner e)
  where
    inner : Some y ≡ Some x → y ≡ x
    inner w = cc
next {X = X} (suc k) (y ∷ xs) x e = ap (λ (zs : List X). y ∷ zs) (next k xs x e)

ends : {X : Type 0} (k most : ℕ) (xs : List X) → slice_get xs k ≡ None → k ≤ most → take k xs ≡ take most xs
ends k most [] e le = take_all k [] (omega arith) ∙ sym (take_all most [] (omega arith))
ends zero most (x ∷ xs) e le = absurd (cc)
ends (suc k) zero (x ∷ xs) e le = absurd (omega arith)
ends {X = X} (suc k) (suc most) (x ∷ xs) e le = ap (λ (zs : List X). x ∷ zs) (ends k most xs e (omega arith))

-- one more
pub copies_more : {X : Type 0} (xs : List X) (n k : ℕ) (x : X) → slice_get xs (n + k) ≡ Some x → take (k + 1) (drop n xs) ≡ take k (drop n xs) ++ x ∷ []
copies_more xs n k x e = ap (λ (m : ℕ). take m (drop n xs)) (let s : k + 1 ≡ suc k = omega arith in s) ∙ next k (drop n xs) x (dropped n k xs ∙ e)

-- where there are no more
pub copies_end : {X : Type 0} (xs : List X) (n k most : ℕ) → slice_get xs (n + k) ≡ None → k ≤ most → take k (drop n xs) ≡ take most (drop n xs)
copies_end xs n k most e le = ends k most (drop n xs) (dropped n k xs ∙ e) le

-- all that there are
pub copies_all : {X : Type 0} (xs : List X) (n count most : ℕ) → count ≡ min (length xs - n) most → take count (drop n xs) ≡ take most (drop n xs)
copies_all xs n count most e =
    ap (λ (m : ℕ). take m (drop n xs)) (e ∙ ap (λ (m : ℕ). min m most) (sym (length-drop n xs)))
    ∙ (ap (λ (m : ℕ). take m (drop n xs)) (turned (length (drop n xs)) most) ∙ take_min most (drop n xs))
  where
    turned : (a b : ℕ) → min a b ≡ min b a
    turned a b = omega arith
