use Rattle.std.proofs.Common.{◌≤◌, ◌-◌, length}
use Rattle.sat_pool.specs.Places.{place_of}
use Rattle.sat_pool.proofs.rising.search.Given as goal

abbrev pub invariant-loop-low : goal.invariant-loop-low
invariant-loop-low l = (l.low ≤ place_of l.waiting.items l.point) × (place_of l.waiting.items l.point ≤ l.high) × (l.high ≤ length l.waiting.items)

abbrev pub decreases-loop-low : goal.decreases-loop-low
decreases-loop-low l = l.high - l.low
