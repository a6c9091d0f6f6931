use Rattle.std.proofs.Common.{◌≡◌, ◌++◌, map, take, drop}
use Rattle.sat_gear.specs.Gear.{after_drain}
use Rattle.sat_site.proofs.gears.drain_all.Given as goal

abbrev pub invariant-loop-gear : goal.invariant-loop-gear
invariant-loop-gear l = l.gears ≡ map after_drain (take l.gear-index l.fn.gears) ++ drop l.gear-index l.fn.gears
