use Rattle.std.proofs.Common.{◌<◌, ◌^◌, arith, sym, subst, ap, ◌∙◌}
use Rattle.sat_act.specs.Deployed.{Deployed}
use Rattle.sat_act.specs.Limits.{IsDeployment}
use Rattle.sat_act.specs.Settling.{round, round_acts}
use Rattle.sat_settle.proofs.Ranges.{within}
use Rattle.sat_settle.proofs.Turning.{rounds-none, rounds-next, rounds-done, whole-round}
use Rattle.sat_settle.proofs.KeptOn.{rounds-kept-none, rounds-kept-next, rounds-kept-done}
use Rattle.sat_settle.proofs.keeping.rounds_keeping.Goals as goal

pub loop-rounds-init : goal.loop-rounds-init
loop-rounds-init c = (rounds-none _, rounds-kept-none _ _)

pub round_keeping-requires-clause-limits : goal.round_keeping-requires-clause-limits
round_keeping-requires-clause-limits c = subst IsDeployment (sym c.loop-rounds.invariant.0.deployment) c.requires.limits

pub round_keeping-requires-clause-acts : goal.round_keeping-requires-clause-acts
round_keeping-requires-clause-acts c = c.requires.acts ∙ ap (λ (d : Deployed). round_acts d) (sym c.loop-rounds.invariant.0.deployment)

pub returns-then-more-eq0-clause-ok : goal.returns-then-more-eq0-clause-ok
returns-then-more-eq0-clause-ok c =
    let l : c.loop-rounds.rounds < 2 ^ 64 = omega arith in
    rounds-done round _ _ _ _ _ _ (whole-round _) c.loop-rounds.invariant.0 c.in_ok-more.ensures.ok c.if-more-eq0.true l

pub returns-then-more-eq0-clause-keeps : goal.returns-then-more-eq0-clause-keeps
returns-then-more-eq0-clause-keeps c = rounds-kept-done _ _ _ _ _ _ _ _ _ c.loop-rounds.invariant.1 c.in_ok-more.ensures.ok c.if-more-eq0.true c.in_ok-more.ensures.keeps

pub loop-rounds-preserved : goal.loop-rounds-preserved
loop-rounds-preserved c = (
  rounds-next round _ _ _ _ _ _ _ (whole-round _) (within _ c.requires.limits) c.loop-rounds.invariant.0 c.in_ok-more.ensures.deployment c.in_ok-more.ensures.ok c.if-more-eq0.false c.saturating_add-done.ensures,
  rounds-kept-next _ _ _ _ _ _ _ _ _ _ (within _ c.requires.limits) c.loop-rounds.invariant.1 c.in_ok-more.ensures.deployment c.in_ok-more.ensures.ok c.if-more-eq0.false c.saturating_add-done.ensures c.in_ok-more.ensures.keeps,
)
