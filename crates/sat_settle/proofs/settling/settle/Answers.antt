use Rattle.std.proofs.Common.{subst, sym}
use Rattle.sat_act.specs.Limits.{IsDeployment}
use Rattle.sat_settle.proofs.Going.{on-err}
use Rattle.sat_settle.proofs.Settled.{ends-by, settled-answer, settled-stands, settled-run, settled-good, settled-bound, settled-rests, stops-at-first, stops-in-opening, stops-in-rounds}
use Rattle.sat_settle.proofs.settling.settle.Goals as goal

pub returns-in_err-acts-clause-err : goal.returns-in_err-acts-clause-err
returns-in_err-acts-clause-err c = on-err _ _ (stops-at-first _)

pub returns-in_err-opened-clause-err : goal.returns-in_err-opened-clause-err
returns-in_err-opened-clause-err c = on-err _ _ (stops-in-opening _ _ c.in_err-opened.ensures.err)

pub do_rounds-requires-clause-limits : goal.do_rounds-requires-clause-limits
do_rounds-requires-clause-limits c = subst IsDeployment (sym c.in_ok-opened.ensures.deployment) (subst IsDeployment c.deployment.ensures c.in_ok-acts.ensures.limits)

pub returns-in_err-rounds-clause-err : goal.returns-in_err-rounds-clause-err
returns-in_err-rounds-clause-err c = on-err _ _ (stops-in-rounds _ _ _ _ c.in_ok-opened.ensures.deployment c.in_ok-opened.ensures.ok c.in_err-rounds.ensures.err)

pub returns-clause-answer : goal.returns-clause-answer
returns-clause-answer c = λ h run st. settled-answer _ h _ _ _ (ends-by _ _ _ _ _ _ _ c.in_ok-opened.ensures.deployment c.in_ok-opened.ensures.ok c.in_ok-rounds.ensures.ok c.saturating_add.ensures h run st)

pub returns-clause-stands : goal.returns-clause-stands
returns-clause-stands c = λ h run st. settled-stands _ h _ _ _ (ends-by _ _ _ _ _ _ _ c.in_ok-opened.ensures.deployment c.in_ok-opened.ensures.ok c.in_ok-rounds.ensures.ok c.saturating_add.ensures h run st)

pub returns-clause-run : goal.returns-clause-run
returns-clause-run c = λ h run st. settled-run _ h _ _ _ (ends-by _ _ _ _ _ _ _ c.in_ok-opened.ensures.deployment c.in_ok-opened.ensures.ok c.in_ok-rounds.ensures.ok c.saturating_add.ensures h run st)

pub returns-clause-good : goal.returns-clause-good
returns-clause-good c = λ h run st. settled-good _ h _ _ _ (subst IsDeployment c.deployment.ensures c.in_ok-acts.ensures.limits) (ends-by _ _ _ _ _ _ _ c.in_ok-opened.ensures.deployment c.in_ok-opened.ensures.ok c.in_ok-rounds.ensures.ok c.saturating_add.ensures h run st)

pub returns-clause-bound : goal.returns-clause-bound
returns-clause-bound c = λ h run st. settled-bound _ h _ _ _ (subst IsDeployment c.deployment.ensures c.in_ok-acts.ensures.limits) run (ends-by _ _ _ _ _ _ _ c.in_ok-opened.ensures.deployment c.in_ok-opened.ensures.ok c.in_ok-rounds.ensures.ok c.saturating_add.ensures h run st)

pub returns-clause-rests : goal.returns-clause-rests
returns-clause-rests c = λ h run st end. settled-rests _ h (subst IsDeployment c.deployment.ensures c.in_ok-acts.ensures.limits) run end
