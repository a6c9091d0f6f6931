use Rattle.std.proofs.Common.{◌≡◌}
use Rattle.sat_plan.specs.Drafts.{best_below}
use Rattle.sat_plan.specs.Steps.{seat_cost}
use Rattle.sat_plan.proofs.grow.nearest.Given as goal

abbrev pub invariant-loop-z : goal.invariant-loop-z
invariant-loop-z l = l.best ≡ best_below (seat_cost l.d l.places l.site) l.z
