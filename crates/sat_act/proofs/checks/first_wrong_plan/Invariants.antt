use Rattle.std.proofs.Common.{◌≡◌, ◌<◌, ℕ, None, Some, slice_get}
use Rattle.sat_label.specs.Words.{first_failing}
use Rattle.sat_tree.specs.Shape.{TreeShape}
use Rattle.sat_tree.specs.Flaw.{IsSmallTree}
use Rattle.sat_act.specs.declared.deployment.Plan.TheVariants as plan
use Rattle.sat_act.specs.Flaw.{plan_fits}
use Rattle.sat_act.proofs.checks.first_wrong_plan.Given as goal

abbrev pub invariant-loop-e : goal.invariant-loop-e
invariant-loop-e l =
    (first_failing (plan_fits l.sites l.plans) l.e ≡ None) × ((k : ℕ) (t : TreeShape) → k < l.e → slice_get l.plans k ≡ Some (plan.Tree t) → IsSmallTree t)
