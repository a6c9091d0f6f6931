use Rattle.std.proofs.Common.{arith, rules}
use Rattle.sat_label.proofs.First.{first_more}
use Rattle.sat_act.proofs.Sound.{trees-more, trees-all}
use Rattle.sat_act.proofs.checks.first_wrong_plan.Goals as goal

pub loop-e-preserved : goal.loop-e-preserved
loop-e-preserved c =
    (first_more _ c.loop-e.e c.loop-e.invariant.0 (search rules), trees-more c.args.plans.now c.loop-e.e c.loop-e.invariant.1 c.plan_fits.ensures.tree)

pub returns-clause-trees : goal.returns-clause-trees
returns-clause-trees c = λ _. trees-all c.args.plans.now c.loop-e.e (omega arith) c.loop-e.invariant.1
