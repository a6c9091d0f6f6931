-- Places of changed lists, and choices.
use Rattle.std.specs.Prelude.{◌≡◌, ◌≢◌, ◌⊎◌, ◌<◌, ℕ, zero, suc, Bool, true, false, List, [], ◌∷◌, length, map, set, get_or, Some, slice_get, if◌then◌else◌, refl}
use Rattle.std.proofs.Common.{ap, sym, ◌∙◌, arith, inl, inr}

-- after a write at place i
pub set-cases : {X : Type 0} (xs : List X) (i n : ℕ) (y x : X) → slice_get (set xs i y) n ≡ Some x → ((y ≡ x) × (n ≡ i)) ⊎ ((slice_get xs n ≡ Some x) × (n ≢ i))
set-cases [] i n y x e = absurd (cc)
set-cases (z ∷ xs) zero zero y x e = inl (cc, refl)
set-cases (z ∷ xs) zero (suc n) y x e = inr (e, λ w. omega arith)
set-cases (z ∷ xs) (suc i) zero y x e = inr (e, λ w. omega arith)
set-cases (z ∷ xs) (suc i) (suc n) y x e = elim (set-cases xs i n y x e) [
  | inl w ↦ inl (w.0, ap (λ (k : ℕ). suc k) w.1)
  | inr w ↦ inr (w.0, λ f. w.1 (let k : n ≡ i = omega arith in k))
]

pub record Mapped {X Y : Type 0} (f : X → Y) (xs : List X) (n : ℕ) (y : Y) : Type 0 where
  pub old : X
  pub at : slice_get xs n ≡ Some old
  pub is : f old ≡ y

pub map-cases : {X Y : Type 0} (f : X → Y) (xs : List X) (n : ℕ) (y : Y) → slice_get (map f xs) n ≡ Some y → Mapped f xs n y
map-cases f [] n y e = absurd (cc)
map-cases f (x ∷ xs) zero y e = record { old = x; at = refl; is = cc }
map-cases f (x ∷ xs) (suc n) y e = let w : Mapped f xs n y = map-cases f xs n y e in record { old = w.old; at = w.at; is = w.is }

pub same-get : {X : Type 0} (xs : List X) (n : ℕ) (x y : X) → slice_get xs n ≡ Some x → slice_get xs n ≡ Some y → x ≡ y
same-get xs n x y e f = let k : Some x ≡ Some y = sym e ∙ f in cc

-- a place within a list
pub get-is : {X : Type 0} (xs : List X) (i : ℕ) (d : X) → i < length xs → slice_get xs i ≡ Some (get_or xs i d)
get-is [] i d lt = absurd (omega arith)
get-is (x ∷ xs) zero d lt = refl
get-is (x ∷ xs) (suc i) d lt = get-is xs i d (omega arith)

pub get-default : {X : Type 0} (xs : List X) (i : ℕ) (x d : X) → slice_get xs i ≡ Some x → get_or xs i d ≡ x
get-default [] i x d e = absurd (cc)
get-default (y ∷ xs) zero x d e = cc
get-default (y ∷ xs) (suc i) x d e = get-default xs i x d e

pub get-within : {X : Type 0} (xs : List X) (i : ℕ) (x : X) → slice_get xs i ≡ Some x → i < length xs
get-within [] i x e = absurd (cc)
get-within (y ∷ xs) zero x e = omega arith
get-within (y ∷ xs) (suc i) x e = let k : i < length xs = get-within xs i x e in omega arith

pub chosen : {X : Type 0} (b : Bool) (x y : X) → b ≡ true → (if b then x else y) ≡ x
chosen true x y e = refl
chosen false x y e = absurd (cc)

pub passed : {X : Type 0} (b : Bool) (x y : X) → b ≡ false → (if b then x else y) ≡ y
passed true x y e = absurd (cc)
passed false x y e = refl
