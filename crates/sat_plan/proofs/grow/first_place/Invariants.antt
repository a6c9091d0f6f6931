use Rattle.std.proofs.Common.{◌≡◌}
use Rattle.sat_plan.specs.Drafts.{best_below}
use Rattle.sat_plan.specs.Steps.{start_cost}
use Rattle.sat_plan.proofs.grow.first_place.Given as goal

abbrev pub invariant-loop-place : goal.invariant-loop-place
invariant-loop-place l = l.best ≡ best_below (start_cost l.d) l.place
