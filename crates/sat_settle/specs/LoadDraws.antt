-- The generator that a large script is drawn from, as the list of its states.
use Rattle.std.specs.Prelude.{ℕ, zero, suc, ◌+◌, ◌*◌, ◌/◌, ◌%◌, ◌^◌}

-- the state after a state
unfoldable pub next_state : ℕ → ℕ
next_state x = (x * 6364136223846793005 + 1442695040888963407) % 2 ^ 64

-- the number below m that a state gives
unfoldable pub number_of : ℕ → ℕ → ℕ
number_of x m = x / 2 ^ 33 % m

-- the state after so many draws
abbrev pub after_draws : ℕ → ℕ → ℕ
after_draws zero x = x
after_draws (suc n) x = next_state (after_draws n x)

-- the first, the second and the third number that are drawn from a state on, each below m
abbrev pub first : ℕ → ℕ → ℕ
first x m = number_of (after_draws 1 x) m

-- the second number below m that is drawn from x
abbrev pub second : ℕ → ℕ → ℕ
second x m = number_of (after_draws 2 x) m

-- the third number below m that is drawn from x
abbrev pub third : ℕ → ℕ → ℕ
third x m = number_of (after_draws 3 x) m
