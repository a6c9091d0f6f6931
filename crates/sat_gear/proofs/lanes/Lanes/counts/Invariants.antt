use Rattle.std.proofs.Common.{◌≡◌, take}
use Rattle.sat_gear.proofs.lanes.Lanes.counts.Given as goal

abbrev pub invariant-loop-count : goal.invariant-loop-count
invariant-loop-count l = l.counts ≡ take l.count-index l.count-items
