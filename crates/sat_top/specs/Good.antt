-- What a good table of delays gives.
use Rattle.std.specs.Prelude.{ℕ, ◌≡◌, ◌≤◌, List, Ok}
use Rattle.sat_delay.specs.Table.{DelayTable}
use Rattle.sat_delay.specs.Reading.{reading as delays_in}
use Rattle.sat_plan.specs.Config.{delayed}
use Rattle.sat_plan.specs.Mismatch.{mismatch}
use Rattle.sat_plan.specs.Steps.{built}

-- where the text is a table of delays, no other delay of one edge of the tree that is built from it gives a lower
-- mismatch
abbrev pub IsBestPlan : List ℕ → Type 0
IsBestPlan text = (d : DelayTable) → delays_in text ≡ Ok d → (e delay : ℕ)
    → mismatch d (built d) ≤ mismatch d (delayed (built d) e delay)
