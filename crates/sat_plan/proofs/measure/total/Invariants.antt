use Rattle.std.proofs.Common.{◌≡◌, take, sum_by}
use Rattle.sat_plan.specs.Routes.{routed_cost}
use Rattle.sat_plan.proofs.measure.total.Given as goal

abbrev pub invariant-loop-pair : goal.invariant-loop-pair
invariant-loop-pair l = l.total ≡ sum_by (routed_cost l.d l.routes l.delays) (take l.pair-index l.pairs)
