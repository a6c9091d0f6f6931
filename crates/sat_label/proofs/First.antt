-- The first place that fails a test.
use Rattle.std.proofs.Math.Nat.{eq-or-lt_of_le}
use Rattle.std.proofs.Common.{ℕ, zero, suc, zero-add, ◌≡◌, ◌<◌, ◌+◌, ◌-◌, Bool, true, false, Option, Some, None, refl, arith, ◌⊎◌, inl, inr, add-one}
use Rattle.sat_label.specs.Words.{first_failing}

-- one place more that passes
pub first_more : (test : ℕ → Bool) (n : ℕ) → first_failing test n ≡ None → test n ≡ true → first_failing test (n + 1) ≡ None
unfolding first_failing
first_more test n none passes = rw (add-one, none, passes, first_failing) refl

-- the place after those that pass is the first that fails
here : (test : ℕ → Bool) (n : ℕ) → first_failing test n ≡ None → test n ≡ false → first_failing test (suc n) ≡ Some n
unfolding first_failing
here test n none fails = rw (none, fails, first_failing) refl

stays : (test : ℕ → Bool) (n k m : ℕ) → first_failing test n ≡ Some k → first_failing test (m + n) ≡ Some k
unfolding first_failing
stays test n k zero is = rw zero-add is
stays test n k (suc m) is = let e : suc m + n ≡ suc (m + n) = omega arith in rw (e, stays test n k m is, first_failing) refl

pub first_here : (test : ℕ → Bool) (n m : ℕ) → first_failing test n ≡ None → test n ≡ false → n < m → first_failing test m ≡ Some n
first_here test n m none fails below =
    let e : (m - suc n) + suc n ≡ m = omega arith in
    rw (← e) (stays test (suc n) n (m - suc n) (here test n none fails))

-- where no place fails, each passes
pub first_none : (test : ℕ → Bool) (n k : ℕ) → first_failing test n ≡ None → k < n → test k ≡ true
unfolding first_failing
first_none test zero k none below = absurd (omega arith)
first_none test (suc n) k none below = go (first_failing test n) (test n) refl refl none (eq-or-lt_of_le (omega arith)) (λ is less. first_none test n k is less)
  where
    go : (o : Option ℕ) (b : Bool) → first_failing test n ≡ o → test n ≡ b → first_failing test (suc n) ≡ None → (k ≡ n) ⊎ (k < n) → (first_failing test n ≡ None → k < n → test k ≡ true) → test k ≡ true
    go (Some j) b is at e place before = absurd (let f : first_failing test (suc n) ≡ Some j = rw (is, first_failing) refl in cc)
    go None true is at e (inl same) before = rw same at
    go None true is at e (inr less) before = before is less
    go None false is at e place before = absurd (let f : first_failing test (suc n) ≡ Some n = rw (is, at, first_failing) refl in cc)

pub first_start : (test : ℕ → Bool) → first_failing test 0 ≡ None
unfolding first_failing
first_start test = refl
