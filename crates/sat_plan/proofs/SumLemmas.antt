-- Sums below a number, and the least below a number.
use Rattle.std.proofs.Common.{ℕ, zero, suc, ◌≡◌, ◌<◌, ◌≤◌, ◌+◌, ◌*◌, ◌⊎◌, inl, inr, Bool, true, false, nat_lt, if◌then◌else◌, refl, arith, ◌∙◌, sym, add-one, subst}
use Rattle.std.proofs.Math.Nat.{eq-or-lt_of_le}
use Rattle.std.proofs.lemmas.Bool.Decides.{nat_tests}
use Rattle.std.proofs.lemmas.Bool.{cases_lt}
use Rattle.sat_plan.specs.declared.best.Best.{Best}
use Rattle.sat_plan.specs.Sums.{sum_to, least_of, IsLeastBelow}
use Rattle.sat_plan.specs.Drafts.{best_below}

-- ---- sums

pub sum_to_start : (f : ℕ → ℕ) → sum_to f 0 ≡ 0
unfolding sum_to
sum_to_start f = refl

pub sum_to_more : (f : ℕ → ℕ) (n : ℕ) → sum_to f (n + 1) ≡ sum_to f n + f n
unfolding sum_to
sum_to_more f n = rw (add-one, sum_to) refl

pub sum_to-le : (f : ℕ → ℕ) (n most : ℕ) → ((k : ℕ) → f k ≤ most) → sum_to f n ≤ n * most
unfolding sum_to
sum_to-le f zero most small = omega arith
sum_to-le f (suc n) most small = let e : suc n * most ≡ n * most + most = grind arith in omega (arith, sum_to-le f n most small, small n)

-- equal terms below a number
pub sum_to-same : (f g : ℕ → ℕ) (n : ℕ) → ((k : ℕ) → k < n → f k ≡ g k) → sum_to f n ≡ sum_to g n
unfolding sum_to
sum_to-same f g zero same = refl
sum_to-same f g (suc n) same = let here = same n (omega arith) in let front = sum_to-same f g n (λ k below. same k (omega arith)) in omega arith

-- one term that is greater, and no other
pub sum_to-one : (f g : ℕ → ℕ) (e x n : ℕ) → e < n → ((k : ℕ) → (k ≡ e → ⊥) → f k ≡ g k) → f e ≡ g e + x → sum_to f n ≡ sum_to g n + x
unfolding sum_to
sum_to-one f g e x zero below others own = absurd (omega arith)
sum_to-one f g e x (suc n) below others own = go (eq-or-lt_of_le (let most : e ≤ n = omega arith in most)) (λ under. sum_to-one f g e x n under others own)
  where
    go : (e ≡ n) ⊎ (e < n) → (e < n → sum_to f n ≡ sum_to g n + x) → sum_to f n + f n ≡ (sum_to g n + g n) + x
    go (inl same) front =
        let before = sum_to-same f g n (λ k under. others k (λ is. absurd (omega arith))) in
        let here : f n ≡ g n + x = subst (λ k. f k ≡ g k + x) same own in
        omega arith
    go (inr under) front =
        let here = others n (λ is. absurd (omega arith)) in
        let before = front under in
        omega arith

-- ---- the least below a number

least_lower : (f : ℕ → ℕ) (n : ℕ) → f n < f (least_of f n) → least_of f (suc n) ≡ n
unfolding least_of
least_lower f n less = let t : nat_lt (f n) (f (least_of f n)) ≡ true = grind (arith, nat_tests) in rw (least_of, t) refl

least_not_lower : (f : ℕ → ℕ) (n : ℕ) → f (least_of f n) ≤ f n → least_of f (suc n) ≡ least_of f n
unfolding least_of
least_not_lower f n most = let t : nat_lt (f n) (f (least_of f n)) ≡ false = grind (arith, nat_tests) in rw (least_of, t) refl

least_none : (f : ℕ → ℕ) → least_of f 0 ≡ 0
unfolding least_of
least_none f = refl

pub least_one : (f : ℕ → ℕ) → least_of f 1 ≡ 0
least_one f = elim (cases_lt (f 0) (f (least_of f 0))) [ inl less ↦ least_lower f 0 less | inr most ↦ least_not_lower f 0 most ∙ least_none f ]

least_more : (f : ℕ → ℕ) (n : ℕ) → IsLeastBelow f n (least_of f n) → IsLeastBelow f (suc n) (least_of f (suc n))
least_more f n before = elim (cases_lt (f n) (f (least_of f n))) [
  | inl less ↦ rw (least_lower f n less) (record {
    below = omega arith;
    best = λ x under. by_place x under less;
    lowest = λ x under. let b = before.best x under in omega arith;
  })
  | inr most ↦ rw (least_not_lower f n most) (record {
    below = let b = before.below in omega arith;
    best = λ x under. elim (eq-or-lt_of_le (let m : x ≤ n = omega arith in m)) [ inl same ↦ rw same most | inr less ↦ before.best x less ];
    lowest = before.lowest;
  })
]
  where
    by_place : (x : ℕ) → x < suc n → f n < f (least_of f n) → f n ≤ f x
    by_place x under less = elim (eq-or-lt_of_le (let m : x ≤ n = omega arith in m)) [ inl same ↦ rw same (omega arith) | inr below ↦ let b = before.best x below in omega arith ]

pub least_is_least : (f : ℕ → ℕ) (n : ℕ) → 0 < n → IsLeastBelow f n (least_of f n)
least_is_least f zero some = absurd (omega arith)
least_is_least f (suc zero) some = rw (least_one f) (record {
  below = omega arith;
  best = λ x under. let e : x ≡ 0 = omega arith in rw e (omega arith);
  lowest = λ x under. absurd (omega arith);
})
least_is_least f (suc (suc n)) some = least_more f (suc n) (least_is_least f (suc n) (omega arith))

-- there is one least, and the lowest of those is one
pub least_alone : (f : ℕ → ℕ) (n x : ℕ) → IsLeastBelow f n x → least_of f n ≡ x
least_alone f n x is = go (least_is_least f n (let b = is.below in omega arith))
  where
    go : IsLeastBelow f n (least_of f n) → least_of f n ≡ x
    go found = elim (cases_lt (least_of f n) x) [
      | inl under ↦ let a = is.lowest _ under in let b = found.best x is.below in absurd (omega arith)
      | inr most ↦ elim (eq-or-lt_of_le most) [ inl same ↦ sym same | inr under ↦ let a = found.lowest x under in let b = is.best _ found.below in absurd (omega arith) ]
    ]

-- ---- the best so far

pub best_one : (f : ℕ → ℕ) (cost : ℕ) → cost ≡ f 0 → record { number = 0; cost = cost } ≡ best_below f 1
best_one f cost is = rw (least_one f, is) refl

pub best_more : (f : ℕ → ℕ) (n cost : ℕ) (best : Best) → best ≡ best_below f n → cost ≡ f n → (if nat_lt cost best.cost then record { number = n; cost = cost } else best) ≡ best_below f (n + 1)
best_more f n cost best front next = rw (add-one, front, next) (go (nat_lt (f n) (f (least_of f n))) refl)
  where
    go : (b : Bool) → nat_lt (f n) (f (least_of f n)) ≡ b → (if nat_lt (f n) (f (least_of f n)) then record { number = n; cost = f n } else best_below f n) ≡ best_below f (suc n)
    go true is = rw (is, least_lower f n (grind (arith, nat_tests))) refl
    go false is = rw (is, least_not_lower f n (grind (arith, nat_tests))) refl

pub best_within : (f : ℕ → ℕ) (n : ℕ) (best : Best) → best ≡ best_below f n → 0 < n → best.number < n
best_within f n best is some = rw is ((least_is_least f n some).below)
