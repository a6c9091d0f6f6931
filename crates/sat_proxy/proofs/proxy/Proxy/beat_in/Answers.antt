use Rattle.std.proofs.Common.{◌<◌, sym, ap, subst, ◌∙◌}
use Rattle.sat_proxy.specs.Proxy.{ProxySeen}
use Rattle.sat_proxy.specs.Steps.{after_beat, beat_take}
use Rattle.sat_proxy.proofs.Sound.{beat-done}
use Rattle.sat_proxy.proofs.proxy.Proxy.beat_in.Goals as goal

pub invariant_of-self-2 : goal.invariant_of-self-2
invariant_of-self-2 c =
    let lt : c.args.from < c.self.inside.sites = subst (λ (p : ProxySeen). c.args.from < p.sites) (sym c.self.view_is) c.requires.from in
    (c.self.invariant.0, (beat-done _ c.args.from c.args.number c.args.beat _ _ _ _ c.take.new.self c.self.invariant.1 lt c.self.invariant.0 c.as_slice.ensures.value c.fronts_from-fronts.ensures c.in_ok-took.ensures.answer c.in_ok-took.ensures.new c.in_ok-took.ensures.best c.limits.ensures.beats).sound)

pub returns-clause-answer : goal.returns-clause-answer
returns-clause-answer c =
    let lt : c.args.from < c.self.inside.sites = subst (λ (p : ProxySeen). c.args.from < p.sites) (sym c.self.view_is) c.requires.from in
    (beat-done _ c.args.from c.args.number c.args.beat _ _ _ _ c.take.new.self c.self.invariant.1 lt c.self.invariant.0 c.as_slice.ensures.value c.fronts_from-fronts.ensures c.in_ok-took.ensures.answer c.in_ok-took.ensures.new c.in_ok-took.ensures.best c.limits.ensures.beats).answer ∙
    ap (λ (p : ProxySeen). beat_take p c.args.from c.args.number) c.self.view_is

pub returns-clause-new : goal.returns-clause-new
returns-clause-new c =
    let lt : c.args.from < c.self.inside.sites = subst (λ (p : ProxySeen). c.args.from < p.sites) (sym c.self.view_is) c.requires.from in
    (beat-done _ c.args.from c.args.number c.args.beat _ _ _ _ c.take.new.self c.self.invariant.1 lt c.self.invariant.0 c.as_slice.ensures.value c.fronts_from-fronts.ensures c.in_ok-took.ensures.answer c.in_ok-took.ensures.new c.in_ok-took.ensures.best c.limits.ensures.beats).after ∙
    ap (λ (p : ProxySeen). after_beat p c.args.from c.args.number c.args.beat) c.self.view_is
