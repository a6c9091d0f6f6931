-- Lists of one member for each number.
use Rattle.std.proofs.Common.{ℕ, zero, suc, ◌≡◌, ◌<◌, ◌≤◌, Bool, true, false, List, [], ◌∷◌, ◌++◌, length, map, take, Some, None, ◌||◌, slice_get, refl, arith, ◌∙◌, ◌⊎◌, inl, inr, add-one}
use Rattle.std.proofs.Math.Nat.{eq-or-lt_of_le}
use Rattle.std.specs.List.{AllByRecursion, list_any}
use Rattle.std.proofs.lemmas.List.{length-map, map-append, take_all, take-append-le}
use Rattle.sat_label.specs.Words.{below, first_failing}
use Rattle.sat_label.proofs.First.{first_start, first_more}
use Rattle.sat_label.proofs.Numbers.{length-below, below-get, get-map}

pub all-append : {X : Type 0} (P : X → Type 0) (xs ys : List X) → AllByRecursion P xs → AllByRecursion P ys → AllByRecursion P (xs ++ ys)
all-append P [] ys h more = more
all-append P (x ∷ xs) ys h more = (h.0, all-append P xs ys h.1 more)

pub all-below : {X : Type 0} (P : X → Type 0) (f : ℕ → X) (n : ℕ) → ((k : ℕ) → k < n → P (f k)) → AllByRecursion P (map f (below n))
all-below P f zero h = tt
all-below P f (suc n) h =
    rw (map-append f (below n) (n ∷ []))
    (all-append P (map f (below n)) (f n ∷ []) (all-below P f n (λ k less. h k (omega arith))) (h n (omega arith), tt))

pub count-below : {X : Type 0} (f : ℕ → X) (n : ℕ) → length (map f (below n)) ≡ n
count-below f n = length-map (below n) f ∙ length-below n

pub at-below : {X : Type 0} (f : ℕ → X) (n k : ℕ) → k < n → slice_get (map f (below n)) k ≡ Some (f k)
at-below f n k less = get-map f (below n) k k (below-get n k less)

-- no number below n fails a test that all of them pass
pub none-fails : (test : ℕ → Bool) (n : ℕ) → ((k : ℕ) → k < n → test k ≡ true) → first_failing test n ≡ None
none-fails test zero passes = first_start test
none-fails test (suc n) passes = rw (← add-one) (first_more test n (none-fails test n (λ k under. passes k (omega arith))) (passes n (omega arith)))

-- the first few of a list of one member for each number
pub take-below : (n k : ℕ) → k ≤ n → take k (below n) ≡ below k
take-below zero zero most = refl
take-below zero (suc k) most = absurd (omega arith)
take-below (suc n) k most = go (eq-or-lt_of_le most) (take-below n k)
  where
    go : (k ≡ suc n) ⊎ (k < suc n) → (k ≤ n → take k (below n) ≡ below k) → take k (below n ++ n ∷ []) ≡ below k
    go (inl all) before = rw all (take_all (suc n) (below (suc n)) (omega (arith, length-below (suc n))))
    go (inr less) before = take-append-le k (below n) (n ∷ []) (rw (length-below n) (omega arith)) ∙ before (omega arith)

any-append : {X : Type 0} (p : X → Bool) (xs ys : List X) → list_any p xs ≡ false → list_any p ys ≡ false → list_any p (xs ++ ys) ≡ false
any-append p [] ys none more = more
any-append p (x ∷ xs) ys none more = go (p x) refl none (any-append p xs ys)
  where
    go : (b : Bool) → p x ≡ b → (b || list_any p xs) ≡ false → (list_any p xs ≡ false → list_any p ys ≡ false → list_any p (xs ++ ys) ≡ false) → (p x || list_any p (xs ++ ys)) ≡ false
    go true is e rest = absurd (cc)
    go false is e rest = rw is (rest e more)

pub any-below : {X : Type 0} (p : X → Bool) (f : ℕ → X) (n : ℕ) → ((k : ℕ) → k < n → p (f k) ≡ false) → list_any p (map f (below n)) ≡ false
any-below p f zero none = refl
any-below p f (suc n) none = rw (map-append f (below n) (n ∷ [])) (any-append p (map f (below n)) (f n ∷ []) (any-below p f n (λ k less. none k (omega arith))) (rw (none n (omega arith)) refl))
