-- A test of each site but one.
use Rattle.std.specs.Prelude.{ℕ, zero, suc, ◌≡◌, ◌<◌, ◌+◌, Bool, true, false, ◌&&◌, List, [], ◌∷◌, ◌++◌, refl}
use Rattle.std.specs.List.{list_all}
use Rattle.std.proofs.Common.{arith, ◌∙◌, ap, add-one, ◌⊎◌, inl, inr}
use Rattle.std.proofs.Math.Nat.{eq-or-lt_of_le}
use Rattle.sat_label.specs.Words.{below}

all-append : (f : ℕ → Bool) (xs : List ℕ) (x : ℕ) → list_all f (xs ++ x ∷ []) ≡ (list_all f xs && f x)
all-append f [] x = and-true (f x)
  where
    and-true : (b : Bool) → (b && true) ≡ (true && b)
    and-true true = refl
    and-true false = refl
all-append f (y ∷ ys) x = ap (λ b. f y && b) (all-append f ys x) ∙ and-assoc (f y) (list_all f ys) (f x)
  where
    and-assoc : (a b c : Bool) → (a && (b && c)) ≡ ((a && b) && c)
    and-assoc true b c = refl
    and-assoc false b c = refl

pub all_start : (f : ℕ → Bool) → list_all f (below 0) ≡ true
all_start f = refl

-- one number more that passes
pub all_more : (f : ℕ → Bool) (n : ℕ) → list_all f (below n) ≡ true → f n ≡ true → list_all f (below (n + 1)) ≡ true
all_more f n all passes = rw (add-one, all-append f (below n) n, all, passes) refl

-- one below the bound that fails
pub all_stops : (f : ℕ → Bool) (n m : ℕ) → f n ≡ false → n < m → list_all f (below m) ≡ false
all_stops f n zero fails low = absurd (omega arith)
all_stops f n (suc m) fails low = go (eq-or-lt_of_le (omega arith)) (λ less. all_stops f n m fails less)
  where
    and-false : (a : Bool) → (a && false) ≡ false
    and-false true = refl
    and-false false = refl

    go : (n ≡ m) ⊎ (n < m) → (n < m → list_all f (below m) ≡ false) → list_all f (below (suc m)) ≡ false
    go (inl same) before = all-append f (below m) m ∙ (rw (← same, fails) (and-false (list_all f (below n))))
    go (inr less) before = all-append f (below m) m ∙ (rw (before less) refl)
