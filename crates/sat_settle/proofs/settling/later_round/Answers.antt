use Rattle.std.proofs.Common.{◌≤◌, sym, arith, length}
use Rattle.sat_act.specs.declared.act.Act.{Act}
use Rattle.sat_act.specs.Deployed.{Deployed}
use Rattle.sat_act.specs.Settling.{until_refused}
use Rattle.sat_settle.proofs.Extending.{all-extends}
use Rattle.sat_settle.proofs.Going.{on-err}
use Rattle.sat_settle.proofs.Loops.{list-none, list-more, list-stop}
use Rattle.sat_settle.proofs.Ranges.{act-of, act-plain, later-in}
use Rattle.sat_settle.proofs.Turning.{until-makes, until-stops, later-makes, later-stops}
use Rattle.sat_settle.proofs.settling.later_round.Goals as goal

pub loop-act-init : goal.loop-act-init
loop-act-init c = list-none (λ (d : Deployed) (a : Act). until_refused d a) _ c.args.acts.now

pub until_refused-requires-clause-act : goal.until_refused-requires-clause-act
until_refused-requires-clause-act c = act-of _ _ _ _ _ c.requires.acts c.loop-act-test.true c.act-item.is c.loop-act.invariant.deployment

pub until_refused-requires-clause-plain : goal.until_refused-requires-clause-plain
until_refused-requires-clause-plain c = act-plain c.args.world.now.deployment _ _ _ c.requires.acts c.loop-act-test.true c.act-item.is

pub returns-in_err-more-clause-err : goal.returns-in_err-more-clause-err
returns-in_err-more-clause-err c = on-err _ _ (later-stops _ _ _ c.requires.acts
    (list-stop (λ (d : Deployed) (a : Act). until_refused d a) _ _ _ _ _ _ _ all-extends c.loop-act-test.true (sym c.act-item.is) c.loop-act.invariant
    (until-stops _ _ _ _ c.requires.limits c.loop-act.invariant.deployment (later-in _ _ _ _ c.requires.acts c.loop-act-test.true c.act-item.is) c.in_err-more.ensures.err)))

pub loop-act-preserved : goal.loop-act-preserved
loop-act-preserved c = list-more (λ (d : Deployed) (a : Act). until_refused d a) _ _ _ _ _ _ _ _ _ c.loop-act-test.true (sym c.act-item.is) c.loop-act.invariant c.in_ok-more.ensures.deployment
    (until-makes _ _ _ _ _ c.requires.limits c.loop-act.invariant.deployment (later-in _ _ _ _ c.requires.acts c.loop-act-test.true c.act-item.is) c.in_ok-more.ensures.ok)
    c.saturating_add-done.ensures

pub returns-clause-ok : goal.returns-clause-ok
returns-clause-ok c =
    let l : length c.args.acts.now ≤ c.loop-act.act-index = omega arith in
    later-makes _ _ _ _ _ c.requires.acts l c.loop-act.invariant
