-- Which numbers of a lane were taken: all below a front, and some above it.
use Rattle.std.specs.Prelude.{ℕ, ◌≤◌, ◌<◌, ◌+◌, ◌^◌, ◌==◌, ◌||◌, ◌++◌, Bool, false, nat_lt, length, List, [], ◌∷◌}
use Rattle.std.specs.Prelude.{if◌then◌else◌}
use Rattle.sat_label.specs.Words.{has}

-- all numbers below the front, and these above it, ascending
pub record Numbers : Type 0 where
  pub front : ℕ
  pub above : List ℕ

-- whether a number was taken: it is below the front, or among those above it
abbrev pub has_number : Numbers → ℕ → Bool
has_number w n = nat_lt n w.front || has ◌==◌ w.above n

-- whether a number is the first of a list
abbrev pub starts_at : List ℕ → ℕ → Bool
starts_at [] n = false
starts_at (x ∷ xs) n = x == n

-- the front moves past the numbers that follow one another from it on
abbrev pub settled : ℕ → List ℕ → Numbers
settled n [] = record { front = n; above = [] }
settled n (x ∷ xs) = if x == n then settled (n + 1) xs else record { front = n; above = x ∷ xs }

-- a number at its place in an ascending list
abbrev pub placed : List ℕ → ℕ → List ℕ
placed [] n = n ∷ []
placed (x ∷ xs) n = if nat_lt n x then n ∷ x ∷ xs else (if n == x then x ∷ xs else x ∷ placed xs n)

-- what is taken once a number was: it alone is new, and at the front the front moves on
abbrev pub after_take : Numbers → ℕ → Numbers
after_take w n =
    if has_number w n then w
    else (if n == w.front then settled (n + 1) w.above else record { front = w.front; above = placed w.above n })

-- numbers ascend, from one on, and none is the last of 64 bits
abbrev pub RisesFrom : ℕ → List ℕ → Type 0
RisesFrom n [] = Unit {0}
RisesFrom n (x ∷ xs) = (n ≤ x) × (x + 1 < 2 ^ 64) × RisesFrom (x + 1) xs

-- the front was not taken, so it is the least that wasn't
abbrev pub IsWindow : Numbers → Type 0
IsWindow w = RisesFrom (w.front + 1) w.above

-- the numbers that marks tell, of which the first is about this one
abbrev pub marked : ℕ → List Bool → List ℕ
marked n [] = []
marked n (b ∷ bs) = if b then n ∷ marked (n + 1) bs else marked (n + 1) bs

-- the front moves past the marks of numbers that were taken, and past the mark behind them, which is the front's own
abbrev pub passed : ℕ → List Bool → ℕ × List Bool
passed n [] = (n, [])
passed n (b ∷ bs) = if b then passed (n + 1) bs else (n, bs)

-- what marks behind a front and a set of numbers far above it tell
abbrev pub told_by : ℕ → List Bool → List ℕ → Numbers
told_by front marks far = record { front = front; above = marked (front + 1) marks ++ far }

-- they tell a window, and the far numbers lie behind the marks
pub record AreApart (front : ℕ) (marks : List Bool) (far : List ℕ) : Type 0 where
  pub window : IsWindow (told_by front marks far)
  pub behind : RisesFrom (front + 1 + length marks) far
