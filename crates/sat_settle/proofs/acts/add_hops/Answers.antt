use Rattle.std.proofs.Common.{◌+◌, ◌∙◌, ℕ, ap, List, ◌++◌}
use Rattle.sat_act.specs.declared.act.Act.{Act}
use Rattle.sat_act.specs.Parts.{tree_of}
use Rattle.sat_act.specs.Settling.{hops_of}
use Rattle.sat_world.proofs.Lists.{index-at}
use Rattle.sat_settle.proofs.Joining.{joins-more, plan-hops}
use Rattle.sat_settle.proofs.acts.add_hops.Goals as goal

pub loop-place-preserved : goal.loop-place-preserved
loop-place-preserved c = joins-more (λ (n : ℕ). hops_of (n + 1) (tree_of c.args.d.now (n + 1))) _ _ _ _ c.loop-place.invariant
    (c.in_ok-add_plan.ensures ∙ ap (λ (acts : List Act). c.loop-place.acts ++ acts) (plan-hops _ _ _ _ c.plans-plans.ensures.plans (index-at _ _ _ c.loop-place-test.true c.index-plans-place.is)))
