use Rattle.std.proofs.Common.{◌≡◌, map, take}
use Rattle.sat_world.specs.Starts.{fresh_for}
use Rattle.sat_world.proofs.start.nets.Given as goal

abbrev pub invariant-loop-plan : goal.invariant-loop-plan
invariant-loop-plan l = l.nets.items ≡ map fresh_for (take l.plan-index l.plans)
