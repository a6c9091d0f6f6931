use Rattle.sat_world.specs.Left.{IsLeft}
use Rattle.sat_world.proofs.underway.in_lanes.Given as goal

abbrev pub invariant-loop-to : goal.invariant-loop-to
invariant-loop-to l = IsLeft l.sites l.gears l.to l.sum
