use Rattle.std.proofs.Common.{◌≡◌}
use Rattle.sat_plan.specs.Sums.{sum_to}
use Rattle.sat_plan.specs.Routes.{routed_leg}
use Rattle.sat_plan.proofs.routes.Routes.way.Given as goal

abbrev pub invariant-loop-e : goal.invariant-loop-e
invariant-loop-e l = l.total ≡ sum_to (routed_leg l.self.legs.items l.delays l.from l.to) l.e
