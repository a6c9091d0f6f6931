use Rattle.std.proofs.Common.{◌≡◌, ◌<◌, ◌∙◌, ℕ, refl, subst, arith}
use Rattle.sat_parts_passes.specs.Sendings.{AreTold}
use Rattle.sat_parts_passes.proofs.Idling.{stays_same, stays_then, told_on}
use Rattle.sat_parts_passes.proofs.Sent.{sent_same, sent_then, told_none}
use Rattle.sat_parts_passes.proofs.sending.beat_all.Goals as goal

pub loop-to-init : goal.loop-to-init
loop-to-init g c = (sent_same c.args.held.now c.args.held.now refl, refl, refl, told_none c.args.held.now.node.machine, stays_same g.N.Laid.deployment.sites c.args.held.now.node.machine c.args.held.now.node.machine refl)

pub returns-in-Err-clause-sent : goal.returns-in-Err-clause-sent
returns-in-Err-clause-sent g c = sent_then _ _ _ c.loop-to.invariant.0 c.beat.ensures.sent

pub loop-to-preserved : goal.loop-to-preserved
loop-to-preserved g c =
    let v = c.loop-to.invariant in
    let less : c.loop-to.to < g.N.Laid.deployment.sites = (let t = c.loop-to-test.true in let s = c.sites-sites.ensures.sites in omega arith) in (
      sent_then _ _ _ v.0 c.beat.ensures.sent,
      c.beat.ensures.outs ∙ v.1,
      c.beat.ensures.ins ∙ v.2,
      told_on g.N.Laid.deployment.sites c.loop-to.to _ _ less c.in_default.ensures.stays v.3 c.in_default.ensures.told,
      stays_then _ _ _ _ v.4 c.in_default.ensures.stays,
    )

pub returns-clause-told : goal.returns-clause-told
returns-clause-told g c =
    let past = c.loop-to-test.false in
    let most = c.loop-to.auto.to-end in
    let s = c.sites-sites.ensures.sites in
    let same : c.loop-to.to ≡ g.N.Laid.deployment.sites = omega arith in
    subst (λ (m : ℕ). AreTold m c.loop-to.held.node.machine) same c.loop-to.invariant.3
