use Rattle.std.proofs.Common.{◌-◌, length}
use Rattle.sat_plan.specs.Drafts.{draft_config}
use Rattle.sat_plan.proofs.Loops.{IsGrowing}
use Rattle.sat_plan.proofs.grow.grown.Given as goal

abbrev pub invariant-growing : goal.invariant-growing
invariant-growing l = IsGrowing l.d (draft_config l.draft) l.cost

abbrev pub decreases-growing : goal.decreases-growing
decreases-growing l = 15 - length l.draft.tree.parents
