use Rattle.std.proofs.Common.{◌≡◌}
use Rattle.sat_plan.specs.Drafts.{best_below, draft_config}
use Rattle.sat_plan.specs.Steps.{parent_cost}
use Rattle.sat_plan.proofs.grow.best_parent.Given as goal

abbrev pub invariant-loop-parent : goal.invariant-loop-parent
invariant-loop-parent l = l.best ≡ best_below (parent_cost l.d (draft_config l.draft)) l.parent
