use Rattle.std.proofs.Common.{◌≡◌, map}
use Rattle.sat_label.specs.Words.{below}
use Rattle.sat_gear.specs.Gear.{fresh_gear}
use Rattle.sat_site.proofs.gears.fresh_gears.Given as goal

abbrev pub invariant-loop-gear : goal.invariant-loop-gear
invariant-loop-gear l = l.gears.items ≡ map (fresh_gear l.shape) (below l.gear)
