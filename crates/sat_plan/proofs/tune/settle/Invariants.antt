use Rattle.sat_plan.specs.Drafts.{draft_config}
use Rattle.sat_plan.proofs.Loops.{IsSettling}
use Rattle.sat_plan.proofs.tune.settle.Given as goal

abbrev pub invariant-settling : goal.invariant-settling
invariant-settling l = IsSettling l.d (draft_config l.fn.draft) (draft_config l.draft) l.routes l.cost

abbrev pub decreases-settling : goal.decreases-settling
decreases-settling l = l.cost
