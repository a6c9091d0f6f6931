use Rattle.sat_world.specs.Left.{IsLeftTo}
use Rattle.sat_world.proofs.underway.left_to.Given as goal

abbrev pub invariant-loop-from : goal.invariant-loop-from
invariant-loop-from l = IsLeftTo l.sites l.gears l.to l.from l.sum
