use Rattle.std.proofs.Common.{◌≡◌}
use Rattle.sat_plan.specs.Drafts.{best_below, draft_config}
use Rattle.sat_plan.specs.Steps.{hung_cost}
use Rattle.sat_plan.proofs.grow.best_place.Given as goal

abbrev pub invariant-loop-place : goal.invariant-loop-place
invariant-loop-place l = l.best ≡ best_below (hung_cost l.d (draft_config l.draft) l.fn.parent) l.place
