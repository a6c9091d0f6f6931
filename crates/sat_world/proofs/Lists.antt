-- Places of lists.
use Rattle.std.specs.Prelude.{◌≡◌, ◌⊎◌, ◌<◌, ℕ, zero, suc, true, false, ◌==◌, List, [], ◌∷◌, ◌++◌, length, map, set, get_or, Option, Some, slice_get, refl}
use Rattle.std.proofs.Common.{sym, subst, ap, ◌∙◌, arith, inl, inr}
use Rattle.std.proofs.lemmas.Bool.Decides.{nat_tests}
use Rattle.std.proofs.lemmas.Option.{slice_get_within}
use Rattle.sat_label.proofs.Truth.{same-number}
use Rattle.sat_laws.proofs.Labels.{some_is}

pub get-is : {X : Type 0} (xs : List X) (i : ℕ) (d : X) → i < length xs → slice_get xs i ≡ Some (get_or xs i d)
get-is [] i d lt = absurd (omega arith)
get-is (x ∷ xs) zero d lt = refl
get-is (x ∷ xs) (suc i) d lt = get-is xs i d (omega arith)

pub within : {X : Type 0} (xs : List X) (i : ℕ) (x : X) → slice_get xs i ≡ Some x → i < length xs
within xs i x e = slice_get_within xs i x e

-- what stands at a place
pub there : {X : Type 0} (xs : List X) (n : ℕ) → n < length xs → (x : X) × (slice_get xs n ≡ Some x)
there [] n lt = absurd (omega arith)
there (x ∷ xs) n lt = (get_or (x ∷ xs) n x, get-is (x ∷ xs) n x lt)

-- what stands in a list after a change of one place
pub set-cases : {X : Type 0} (xs : List X) (i k : ℕ) (x y : X) → slice_get (set xs i x) k ≡ Some y → ((i ≡ k) × (x ≡ y)) ⊎ (((i == k) ≡ false) × (slice_get xs k ≡ Some y))
set-cases [] i k x y e = absurd (cc)
set-cases (z ∷ xs) zero zero x y e = inl (refl, some_is x y e)
set-cases (z ∷ xs) zero (suc k) x y e = inr (other k, e)
  where
    other : (k : ℕ) → (0 == suc k) ≡ false
    other k = grind (arith, nat_tests)
set-cases (z ∷ xs) (suc i) zero x y e = inr (other i, e)
  where
    other : (i : ℕ) → (suc i == 0) ≡ false
    other i = grind (arith, nat_tests)
set-cases {X = X} (z ∷ xs) (suc i) (suc k) x y e = elim (set-cases xs i k x y e) [ inl w ↦ inl (ap suc w.0, w.1) | inr w ↦ inr (more i k w.0, w.1) ]
  where
    more : (i k : ℕ) → (i == k) ≡ false → (suc i == suc k) ≡ false
    more i k e = grind (arith, nat_tests)

pub set-there : {X : Type 0} (xs : List X) (i k : ℕ) (x : X) → (i == k) ≡ false → slice_get (set xs i x) k ≡ slice_get xs k
set-there [] i k x ne = refl
set-there (z ∷ xs) zero zero x ne = absurd (let t : (0 == 0) ≡ true = same-number 0 in cc)
set-there (z ∷ xs) zero (suc k) x ne = refl
set-there (z ∷ xs) (suc i) zero x ne = refl
set-there (z ∷ xs) (suc i) (suc k) x ne = set-there xs i k x (less i k ne)
  where
    less : (i k : ℕ) → (suc i == suc k) ≡ false → (i == k) ≡ false
    less i k e = grind (arith, nat_tests)

pub get-set : {X : Type 0} (xs : List X) (i : ℕ) (x : X) → i < length xs → slice_get (set xs i x) i ≡ Some x
get-set [] i x lt = absurd (omega arith)
get-set (z ∷ xs) zero x lt = refl
get-set (z ∷ xs) (suc i) x lt = get-set xs i x (omega arith)

pub set-same : {X : Type 0} (xs : List X) (i : ℕ) (x : X) → slice_get xs i ≡ Some x → set xs i x ≡ xs
set-same [] i x e = absurd (cc)
set-same {X = X} (y ∷ xs) zero x e = ap (λ (z : X). z ∷ xs) (sym (some_is y x e))
set-same {X = X} (y ∷ xs) (suc i) x e = ap (λ (zs : List X). y ∷ zs) (set-same xs i x e)

pub length-set : {X : Type 0} (xs : List X) (i : ℕ) (x : X) → length (set xs i x) ≡ length xs
length-set [] i x = refl
length-set (z ∷ xs) zero x = refl
length-set (z ∷ xs) (suc i) x = ap suc (length-set xs i x)

-- what stands in a list with one more
pub push-cases : {X : Type 0} (xs : List X) (x y : X) (k : ℕ) → slice_get (xs ++ x ∷ []) k ≡ Some y → (slice_get xs k ≡ Some y) ⊎ ((k ≡ length xs) × (x ≡ y))
push-cases [] x y zero e = inr (refl, some_is x y e)
push-cases [] x y (suc k) e = absurd (cc)
push-cases (z ∷ xs) x y zero e = inl e
push-cases (z ∷ xs) x y (suc k) e = elim (push-cases xs x y k e) [ inl w ↦ inl w | inr w ↦ inr (ap suc w.0, w.1) ]

pub length-push : {X : Type 0} (xs : List X) (x : X) → length (xs ++ x ∷ []) ≡ suc (length xs)
length-push [] x = refl
length-push (z ∷ xs) x = ap suc (length-push xs x)

pub map-get : {X Y : Type 0} (f : X → Y) (xs : List X) (k : ℕ) (y : Y) → slice_get (map f xs) k ≡ Some y → (x : X) × (slice_get xs k ≡ Some x) × (f x ≡ y)
map-get f [] k y e = absurd (cc)
map-get f (x ∷ xs) zero y e = (x, refl, some_is (f x) y e)
map-get f (x ∷ xs) (suc k) y e = map-get f xs k y e

-- what was read at a place stands there
pub index-at : {X : Type 0} (xs : List X) (i : ℕ) (x : X) → i < length xs → x ≡ get_or xs i x → slice_get xs i ≡ Some x
index-at {X = X} xs i x lt is = subst (λ (y : X). slice_get xs i ≡ Some y) (sym is) (get-is xs i x lt)

pub both-are : {X : Type 0} (o : Option X) (x y : X) → o ≡ Some x → o ≡ Some y → x ≡ y
both-are o x y e f = some_is x y (sym e ∙ f)
