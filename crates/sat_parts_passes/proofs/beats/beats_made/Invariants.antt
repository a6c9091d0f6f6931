use Rattle.std.proofs.Common.{◌-◌, ◌^◌, ◌<◌, ◌≤◌, length}
use Rattle.sat_hub.specs.Changes.{made_for}
use Rattle.sat_parts_passes.proofs.beats.beats_made.Given as goal

abbrev pub invariant-halving : goal.invariant-halving
invariant-halving l =
    (l.low ≤ l.high) × (l.high < 2 ^ 64) × (l.low ≤ length (made_for l.hub l.to)) × (l.high < 2 ^ 64 - 1 → length (made_for l.hub l.to) ≤ l.high)

abbrev pub decreases-halving : goal.decreases-halving
decreases-halving l = l.high - l.low
