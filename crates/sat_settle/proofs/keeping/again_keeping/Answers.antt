use Rattle.std.proofs.Common.{◌<◌, ◌^◌, arith, sym, subst}
use Rattle.sat_act.specs.Deployed.{Deployed}
use Rattle.sat_act.specs.Ranges.{IsActOf}
use Rattle.sat_settle.proofs.Until.{repeats-none, repeats-more, repeats-end}
use Rattle.sat_settle.proofs.KeptOn.{keeping-none, keeping-more, keeping-end}
use Rattle.sat_settle.proofs.keeping.again_keeping.Goals as goal

pub loop-done-init : goal.loop-done-init
loop-done-init c = (repeats-none _ _, keeping-none _ _ _)

pub once_keeping-requires-clause-act : goal.once_keeping-requires-clause-act
once_keeping-requires-clause-act c = subst (λ (d : Deployed). IsActOf d c.args.act.now) (sym c.loop-done.invariant.0.deployment) c.requires.act

pub returns-then-more-eq0-clause-ok : goal.returns-then-more-eq0-clause-ok
returns-then-more-eq0-clause-ok c =
    let l : c.loop-done.done < 2 ^ 64 = omega arith in
    repeats-end _ _ _ _ _ _ c.loop-done.invariant.0 c.in_ok-more.ensures.ok c.if-more-eq0.true l

pub returns-then-more-eq0-clause-keeps : goal.returns-then-more-eq0-clause-keeps
returns-then-more-eq0-clause-keeps c = keeping-end _ _ _ _ _ _ _ _ _ c.loop-done.invariant.1 c.in_ok-more.ensures.ok c.if-more-eq0.true c.in_ok-more.ensures.keeps

pub loop-done-preserved : goal.loop-done-preserved
loop-done-preserved c = (
  repeats-more _ _ _ _ _ _ c.loop-done.invariant.0 c.in_ok-more.ensures.deployment c.in_ok-more.ensures.ok c.if-more-eq0.false,
  keeping-more _ _ _ _ _ _ _ _ _ c.loop-done.invariant.1 c.in_ok-more.ensures.deployment c.in_ok-more.ensures.ok c.if-more-eq0.false c.in_ok-more.ensures.keeps,
)
