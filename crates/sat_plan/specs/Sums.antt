-- Sums over the numbers below one, and the least of them by a measure.
use Rattle.std.specs.Prelude.{ℕ, zero, suc, ◌<◌, ◌≤◌, ◌+◌, ◌-◌, nat_lt, if◌then◌else◌}

-- f 0 + f 1 + .. + f (n - 1)
unfoldable pub sum_to : (ℕ → ℕ) → ℕ → ℕ
sum_to f zero = 0
sum_to f (suc n) = sum_to f n + f n

-- the number below n with the least f, the lowest among equals; 0 where there is none
unfoldable pub least_of : (ℕ → ℕ) → ℕ → ℕ
least_of f zero = 0
least_of f (suc n) = if nat_lt (f n) (f (least_of f n)) then n else least_of f n

-- how far two numbers lie apart
abbrev pub gap : ℕ → ℕ → ℕ
gap a b = (a - b) + (b - a)

-- of all numbers below n this one has the least f, and it is the lowest of those that have it
pub record IsLeastBelow (f : ℕ → ℕ) (n least : ℕ) : Type 0 where
  pub below : least < n
  pub best : (x : ℕ) → x < n → f least ≤ f x
  pub lowest : (x : ℕ) → x < least → f least < f x

-- the same of all numbers
pub record IsLeast (f : ℕ → ℕ) (least : ℕ) : Type 0 where
  pub best : (x : ℕ) → f least ≤ f x
  pub lowest : (x : ℕ) → x < least → f least < f x
