use Rattle.std.proofs.Common.{◌≤◌, false, arith}
use Rattle.sat_plan.specs.declared.terms.Term.{Term}
use Rattle.sat_plan.proofs.Chosen.{best_step}
use Rattle.sat_plan.proofs.terms.best_delay.Goals as goal

pub loop-term-preserved : goal.loop-term-preserved
loop-term-preserved c =
    let none : Term = record { weight = 0; rest = 0; optimal = 0; crosses = false } in
    let small = c.requires.small c.loop-term.term-index none c.loop-term-test.true in
    let bound = small.optimal in
    let most = c.turn-delay.ensures.few in
    let few : c.turn-delay.result ≤ 100000 = omega arith in
    best_step _ _ _ _ _ _ c.loop-term.invariant c.loop-term-test.true c.turn-delay.ensures.turn c.terms_cost-cost.ensures few c.or-best.ensures
