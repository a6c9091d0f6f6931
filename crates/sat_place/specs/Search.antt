-- The search through the lists of places, in lexicographic order.
use Rattle.std.specs.Prelude.{ℕ, zero, suc, ◌≡◌, ◌<◌, ◌≤◌, nat_lt, List, [], ◌∷◌, ◌++◌, length, All, if◌then◌else◌}
use Rattle.sat_tree.specs.Shape.{TreeShape}
use Rattle.sat_delay.specs.Table.{DelayTable}
use Rattle.sat_plan.specs.Sums.{least_of}
use Rattle.sat_place.specs.Placing.{Before, worth}
use Rattle.sat_place.specs.declared.placed.Placed.{Placed}

-- the least by a measure of all lists that begin with these numbers and go on with so many below a bound: each next
-- number is the lowest of those under which the least that begins so is least
unfoldable pub least_from : (List ℕ → ℕ) → ℕ → ℕ → List ℕ → List ℕ
unfolding least_of
least_from f bound zero front = front
least_from f bound (suc n) front =
    least_from f bound n (front ++ least_of (λ p. f (least_from f bound n (front ++ p ∷ []))) bound ∷ [])

-- the same with its measure
unfoldable pub best_from : (List ℕ → ℕ) → ℕ → ℕ → List ℕ → Placed
unfolding least_from
best_from f bound n front = record { places = least_from f bound n front; mismatch = f (least_from f bound n front) }

-- the least placement of a tree at the places of a table, found so
unfoldable pub least_places : DelayTable → TreeShape → List ℕ
unfolding least_from worth
least_places d t = least_from (worth d t) d.places (length t.parents) []

-- a later one is taken only where it is lower
abbrev pub lower_of : Placed → Placed → Placed
lower_of a b = if nat_lt b.mismatch a.mismatch then b else a

-- the best after the first so many next numbers were tried
unfoldable pub tried : (List ℕ → ℕ) → ℕ → ℕ → List ℕ → Placed → ℕ → Placed
unfolding best_from
tried f bound n front best zero = best
tried f bound n front best (suc p) = lower_of (tried f bound n front best p) (best_from f bound n (front ++ p ∷ []))

-- of all lists of so many numbers below a bound this one has the least measure, and it is the first of those that have
-- it
pub record IsFirstLeast (f : List ℕ → ℕ) (bound n : ℕ) (front rest : List ℕ) : Type 0 where
  pub count : length rest ≡ n
  pub within : All (λ p. p < bound) rest
  pub best : (others : List ℕ) → length others ≡ n → All (λ p. p < bound) others
      → f (front ++ rest) ≤ f (front ++ others)
  pub first : (others : List ℕ) → length others ≡ n → All (λ p. p < bound) others → Before others rest
      → f (front ++ rest) < f (front ++ others)
