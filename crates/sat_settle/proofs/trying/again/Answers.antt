use Rattle.std.proofs.Common.{◌<◌, ◌^◌, arith, refl}
use Rattle.sat_settle.proofs.Going.{on-err}
use Rattle.sat_settle.proofs.Until.{repeats-more, repeats-end, repeats-stop}
use Rattle.sat_settle.proofs.trying.again.Goals as goal

pub returns-in_err-more-clause-err : goal.returns-in_err-more-clause-err
returns-in_err-more-clause-err c = on-err _ _ (repeats-stop _ _ _ _ _ c.loop-done.invariant c.in_err-more.ensures.err)

pub returns-then-more-eq0-clause-ok : goal.returns-then-more-eq0-clause-ok
returns-then-more-eq0-clause-ok c =
    let l : c.loop-done.done < 2 ^ 64 = omega arith in
    repeats-end _ _ _ _ _ _ c.loop-done.invariant c.in_ok-more.ensures.ok c.if-more-eq0.true l

pub loop-done-preserved : goal.loop-done-preserved
loop-done-preserved c = repeats-more _ _ _ _ _ _ c.loop-done.invariant c.in_ok-more.ensures.deployment c.in_ok-more.ensures.ok c.if-more-eq0.false

pub returns-clause-err : goal.returns-clause-err
returns-clause-err c = repeats-stop _ _ _ _ _ c.loop-done.invariant refl
