use Rattle.sat_plan.proofs.Passes.{settling_stop, settling_last, settling_next}
use Rattle.sat_plan.proofs.tune.settle.Goals as goal

pub returns-then-lower-cost-clause-settled : goal.returns-then-lower-cost-clause-settled
returns-then-lower-cost-clause-settled c = settling_stop _ _ _ _ _ _ _ c.settling.invariant c.in_ok-pass.ensures.passed c.in_ok-lower.ensures c.if-lower-cost.true

pub returns-then-lower-cost-clause-last : goal.returns-then-lower-cost-clause-last
returns-then-lower-cost-clause-last c = settling_last _ _ _ _ _ _ _ c.settling.invariant c.in_ok-pass.ensures.passed c.in_ok-lower.ensures c.if-lower-cost.true

pub settling-preserved : goal.settling-preserved
settling-preserved c = settling_next _ _ _ _ _ _ _ c.settling.invariant c.in_ok-pass.ensures.passed c.in_ok-lower.ensures c.if-lower-cost.false c.in_ok-pass.ensures.fits c.in_ok-pass.ensures.routes
