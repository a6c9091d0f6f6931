use Rattle.std.proofs.Common.{◌≡◌, ◌++◌, map, take, drop}
use Rattle.sat_site.specs.Changes.{ticked_to}
use Rattle.sat_site.proofs.gears.tick_all.Given as goal

abbrev pub invariant-loop-gear : goal.invariant-loop-gear
invariant-loop-gear l = l.gears ≡ map (ticked_to l.ts) (take l.gear-index l.fn.gears) ++ drop l.gear-index l.fn.gears
