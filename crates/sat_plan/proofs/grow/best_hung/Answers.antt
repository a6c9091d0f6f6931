use Rattle.std.proofs.Common.{◌∙◌}
use Rattle.sat_plan.proofs.Growth.{best_hung_from}
use Rattle.sat_plan.proofs.grow.best_hung.Goals as goal

pub returns-clause-best : goal.returns-clause-best
returns-clause-best c = c.in_ok-next.ensures.hung ∙ best_hung_from _ _ _ _ c.in_ok-parent.ensures.best c.in_ok-place.ensures.best
