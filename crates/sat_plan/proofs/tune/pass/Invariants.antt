use Rattle.sat_plan.specs.Drafts.{draft_config}
use Rattle.sat_plan.proofs.Loops.{IsPassing}
use Rattle.sat_plan.proofs.tune.pass.Given as goal

abbrev pub invariant-loop-edge : goal.invariant-loop-edge
invariant-loop-edge l = IsPassing l.d (draft_config l.initial.draft) (draft_config l.draft) l.routes l.edge
