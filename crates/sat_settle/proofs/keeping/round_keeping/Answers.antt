use Rattle.std.proofs.Common.{◌≤◌, sym, arith, length}
use Rattle.sat_act.specs.declared.act.Act.{Act}
use Rattle.sat_act.specs.Deployed.{Deployed}
use Rattle.sat_act.specs.Settling.{until_refused}
use Rattle.sat_settle.proofs.Loops.{list-none, list-more}
use Rattle.sat_settle.proofs.Turning.{until-makes}
use Rattle.sat_settle.proofs.KeptOn.{list-kept-none, list-kept-more, list-kept-end, round-makes, round-in, round-act-of, round-act-plain, until-keeps}
use Rattle.sat_settle.proofs.keeping.round_keeping.Goals as goal

pub loop-act-init : goal.loop-act-init
loop-act-init c = (list-none (λ (d : Deployed) (a : Act). until_refused d a) _ c.args.acts.now, list-kept-none _ c.args.acts.now _)

pub again_keeping-requires-clause-act : goal.again_keeping-requires-clause-act
again_keeping-requires-clause-act c = round-act-of _ _ _ _ _ c.requires.acts c.loop-act-test.true c.act-item.is c.loop-act.invariant.0.deployment

pub again_keeping-requires-clause-plain : goal.again_keeping-requires-clause-plain
again_keeping-requires-clause-plain c = round-act-plain c.args.world.now.deployment _ _ _ c.requires.acts c.loop-act-test.true c.act-item.is

pub loop-act-preserved : goal.loop-act-preserved
loop-act-preserved c = (
  list-more (λ (d : Deployed) (a : Act). until_refused d a) _ _ _ _ _ _ _ _ _ c.loop-act-test.true (sym c.act-item.is) c.loop-act.invariant.0 c.in_ok-more.ensures.deployment
      (until-makes _ _ _ _ _ c.requires.limits c.loop-act.invariant.0.deployment (round-in _ _ _ _ c.requires.acts c.loop-act-test.true c.act-item.is) c.in_ok-more.ensures.ok)
      c.saturating_add-done.ensures,
  list-kept-more _ _ _ _ _ _ _ _ _ c.loop-act-test.true (sym c.act-item.is) c.loop-act.invariant.0 c.loop-act.invariant.1
      (until-keeps _ _ _ _ _ c.requires.limits c.loop-act.invariant.0.deployment (round-in _ _ _ _ c.requires.acts c.loop-act-test.true c.act-item.is) c.in_ok-more.ensures.keeps),
)

pub returns-clause-ok : goal.returns-clause-ok
returns-clause-ok c =
    let l : length c.args.acts.now ≤ c.loop-act.act-index = omega arith in
    round-makes _ _ _ _ _ c.requires.acts l c.loop-act.invariant.0

pub returns-clause-keeps : goal.returns-clause-keeps
returns-clause-keeps c =
    let l : length c.args.acts.now ≤ c.loop-act.act-index = omega arith in
    list-kept-end _ _ _ _ _ c.requires.acts l c.loop-act.invariant.1
