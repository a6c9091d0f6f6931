use Rattle.std.proofs.Common.{◌≡◌}
use Rattle.sat_plan.specs.Config.{edges_below}
use Rattle.sat_plan.proofs.edges.edges.Given as goal

abbrev pub invariant-loop-from : goal.invariant-loop-from
invariant-loop-from l = l.list.items ≡ edges_below l.tree l.from
