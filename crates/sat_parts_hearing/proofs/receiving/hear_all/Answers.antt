use Rattle.std.proofs.Common.{◌≡◌, ◌+◌, ◌*◌, ◌-◌, ◌<◌, ◌∙◌, length, refl, sym, arith}
use Rattle.sat_parts_hearing.proofs.Hearing.{heard_same, heard_then}
use Rattle.sat_parts_hearing.proofs.Lanes.{ends_are}
use Rattle.sat_parts_hearing.proofs.Order.{all_emptied, all_heard, sites_more, sites_none}
use Rattle.sat_parts_hearing.proofs.receiving.hear_all.Goals as goal

pub loop-number-init : goal.loop-number-init
loop-number-init g c = (heard_same _ _ refl, sites_none g.N.Laid.deployment c.args.held.now)

pub returns-in-Err-clause-heard : goal.returns-in-Err-clause-heard
returns-in-Err-clause-heard g c = heard_then _ _ _ c.loop-number.invariant.0 c.hear_site.ensures.heard

pub loop-number-preserved : goal.loop-number-preserved
loop-number-preserved g c = (
  heard_then _ _ _ c.loop-number.invariant.0 c.hear_site.ensures.heard,
  sites_more g.N.Laid.deployment c.loop-number.number _ _ _ (let t = c.loop-number-test.true in let o = c.others-others.ensures.others in omega arith) c.loop-number.invariant.1 c.in_default.ensures.all,
)

pub returns-clause-all : goal.returns-clause-all
returns-clause-all g c =
    let d = g.N.Laid.deployment in
    let past = c.loop-number-test.false in
    let most = c.loop-number.auto.number-end in
    let o = c.others-others.ensures.others in
    let e : c.loop-number.number ≡ d.sites - 1 = omega arith in
    all_heard d c.loop-number.number _ _ e c.loop-number.invariant.1

pub returns-clause-emptied : goal.returns-clause-emptied
returns-clause-emptied g c =
    let d = g.N.Laid.deployment in
    let s = c.sound.ensures in
    let past = c.loop-number-test.false in
    let most = c.loop-number.auto.number-end in
    let o = c.others-others.ensures.others in
    let e : c.loop-number.number ≡ d.sites - 1 = omega arith in
    let all = ends_are d c.args.held.now.node.name c.args.held.now.node.machine _ c.args.held.now.ins s.stands s.tied.ins in
    all_emptied d c.loop-number.number _ _ e all c.loop-number.invariant.1
