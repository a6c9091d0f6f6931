use Rattle.std.proofs.Common.{subst, sym}
use Rattle.sat_act.specs.Limits.{IsDeployment}
use Rattle.sat_settle.proofs.Settled.{ends-by, settled-answer, settled-stands}
use Rattle.sat_settle.proofs.KeptOn.{settle-keeps}
use Rattle.sat_settle.proofs.keeping.settle_keeping.Goals as goal

pub rounds_keeping-requires-clause-limits : goal.rounds_keeping-requires-clause-limits
rounds_keeping-requires-clause-limits c = subst IsDeployment (sym c.in_ok-opened.ensures.deployment) (subst IsDeployment c.deployment.ensures c.in_ok-acts.ensures.limits)

pub returns-clause-answer : goal.returns-clause-answer
returns-clause-answer c = λ h run st. settled-answer _ h _ _ _ (ends-by _ _ _ _ _ _ _ c.in_ok-opened.ensures.deployment c.in_ok-opened.ensures.ok c.in_ok-rounds.ensures.ok c.saturating_add.ensures h run st)

pub returns-clause-stands : goal.returns-clause-stands
returns-clause-stands c = λ h run st. settled-stands _ h _ _ _ (ends-by _ _ _ _ _ _ _ c.in_ok-opened.ensures.deployment c.in_ok-opened.ensures.ok c.in_ok-rounds.ensures.ok c.saturating_add.ensures h run st)

pub returns-clause-keeps : goal.returns-clause-keeps
returns-clause-keeps c = settle-keeps _ _ _ _ _ c.in_ok-opened.ensures.deployment c.in_ok-opened.ensures.ok c.in_ok-rounds.ensures.keeps
