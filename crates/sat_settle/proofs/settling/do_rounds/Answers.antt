use Rattle.std.proofs.Common.{◌<◌, ◌≤◌, ◌^◌, arith}
use Rattle.sat_settle.proofs.Going.{on-err}
use Rattle.sat_settle.proofs.Ranges.{within}
use Rattle.sat_settle.proofs.Turning.{first-next, first-quiet, first-stop, rest-of-round, rounds-next, rounds-done, rounds-stop, rounds-give-up}
use Rattle.sat_settle.specs.Rounds.{later_round}
use Rattle.sat_settle.proofs.settling.do_rounds.Goals as goal

pub returns-in_err-done-clause-err : goal.returns-in_err-done-clause-err
returns-in_err-done-clause-err c = on-err _ _ (first-stop _ _ (within _ c.requires.limits) c.in_err-done.ensures.err)

pub returns-then-done-eq0-clause-ok : goal.returns-then-done-eq0-clause-ok
returns-then-done-eq0-clause-ok c = first-quiet _ _ _ c.in_ok-done.ensures.ok c.if-done-eq0.true

pub loop-rounds-init : goal.loop-rounds-init
loop-rounds-init c =
    let l : c.in_ok-done.done < 2 ^ 64 = omega arith in
    first-next _ _ _ (within _ c.requires.limits) c.in_ok-done.ensures.deployment c.in_ok-done.ensures.ok c.if-done-eq0.false l

pub returns-in_err-more-clause-err : goal.returns-in_err-more-clause-err
returns-in_err-more-clause-err c =
    let l : 1 ≤ c.loop-rounds.rounds = omega arith in
    on-err _ _ (rounds-stop later_round _ _ _ _ _ (rest-of-round _ l) (within _ c.requires.limits) c.loop-rounds.invariant c.in_err-more.ensures.err)

pub returns-then-more-eq0-clause-ok : goal.returns-then-more-eq0-clause-ok
returns-then-more-eq0-clause-ok c =
    let l : c.loop-rounds.rounds < 2 ^ 64 = omega arith in
    let m : 1 ≤ c.loop-rounds.rounds = omega arith in
    rounds-done later_round _ _ _ _ _ _ (rest-of-round _ m) c.loop-rounds.invariant c.in_ok-more.ensures.ok c.if-more-eq0.true l

pub loop-rounds-preserved : goal.loop-rounds-preserved
loop-rounds-preserved c =
    let l : 1 ≤ c.loop-rounds.rounds = omega arith in
    rounds-next later_round _ _ _ _ _ _ _ (rest-of-round _ l) (within _ c.requires.limits) c.loop-rounds.invariant c.in_ok-more.ensures.deployment c.in_ok-more.ensures.ok c.if-more-eq0.false c.saturating_add-done.ensures

pub returns-clause-err : goal.returns-clause-err
returns-clause-err c = rounds-give-up _ _ _ _ c.loop-rounds.invariant
