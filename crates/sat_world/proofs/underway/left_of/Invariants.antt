use Rattle.sat_world.specs.Left.{IsLeftOf}
use Rattle.sat_world.proofs.underway.left_of.Given as goal

abbrev pub invariant-loop-gear : goal.invariant-loop-gear
invariant-loop-gear l = IsLeftOf l.sender l.receiver l.from l.to l.gear l.count
