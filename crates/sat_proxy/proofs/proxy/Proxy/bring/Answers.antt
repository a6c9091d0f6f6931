use Rattle.std.proofs.Common.{◌<◌, length, sym, ap, subst, ◌∙◌}
use Rattle.sat_proxy.specs.Proxy.{ProxySeen, lane_place}
use Rattle.sat_proxy.specs.Steps.{brought}
use Rattle.sat_proxy.proofs.Sound.{bring-done, fresh_number}
use Rattle.sat_proxy.proofs.proxy.Proxy.bring.Goals as goal

pub invariant_of-self-2 : goal.invariant_of-self-2
invariant_of-self-2 c =
    let lt : c.args.from < c.self.inside.sites = subst (λ (p : ProxySeen). c.args.from < p.sites) (sym c.self.view_is) c.requires.from in
    let lg : c.args.gear < c.self.inside.gears = subst (λ (p : ProxySeen). c.args.gear < p.gears) (sym c.self.view_is) c.requires.gear in
    let within : c.lane-place.result < length c.self.inside.windows.items = subst (λ (p : ProxySeen). c.lane-place.result < length p.windows) (sym c.self.view_is) c.lane-place.ensures.within in
    let done = bring-done _ c.args.from c.args.gear c.args.number c.args.payload c.lane-place.result c.self.inside.fronts.items _ _ _ c.take_both.new.window _ c.front.result c.take_both.new.pool c.refresh.new.self c.self.invariant.1 lt lg c.self.invariant.0 (c.lane-place.ensures.place ∙ ap (λ (p : ProxySeen). lane_place p c.args.from c.args.gear) (sym c.self.view_is)) within c.index_mut-window.ensures.value c.in_ok-take_both.ensures.number c.index.ensures c.front.ensures.front c.front.ensures.limits c.as_slice.ensures.value c.fronts_from-fronts.ensures c.in_ok-take_both.ensures.waits c.refresh.ensures.new c.refresh.ensures.best c.limits.ensures.pool c.limits.ensures.beats in
    (done.fronts, done.sound)

pub returns-clause-new : goal.returns-clause-new
returns-clause-new c =
    let lt : c.args.from < c.self.inside.sites = subst (λ (p : ProxySeen). c.args.from < p.sites) (sym c.self.view_is) c.requires.from in
    let lg : c.args.gear < c.self.inside.gears = subst (λ (p : ProxySeen). c.args.gear < p.gears) (sym c.self.view_is) c.requires.gear in
    let within : c.lane-place.result < length c.self.inside.windows.items = subst (λ (p : ProxySeen). c.lane-place.result < length p.windows) (sym c.self.view_is) c.lane-place.ensures.within in
    let done = bring-done _ c.args.from c.args.gear c.args.number c.args.payload c.lane-place.result c.self.inside.fronts.items _ _ _ c.take_both.new.window _ c.front.result c.take_both.new.pool c.refresh.new.self c.self.invariant.1 lt lg c.self.invariant.0 (c.lane-place.ensures.place ∙ ap (λ (p : ProxySeen). lane_place p c.args.from c.args.gear) (sym c.self.view_is)) within c.index_mut-window.ensures.value c.in_ok-take_both.ensures.number c.index.ensures c.front.ensures.front c.front.ensures.limits c.as_slice.ensures.value c.fronts_from-fronts.ensures c.in_ok-take_both.ensures.waits c.refresh.ensures.new c.refresh.ensures.best c.limits.ensures.pool c.limits.ensures.beats in
    done.after ∙ ap (λ (p : ProxySeen). brought p c.args.from c.args.gear c.args.number c.args.payload) c.self.view_is

pub take_both-requires-clause-new : goal.take_both-requires-clause-new
take_both-requires-clause-new c = fresh_number _ c.args.self.now c.args.from c.args.gear c.args.number c.lane-place.result c.index_mut-window.result.now c.self.view_is c.lane-place.ensures.place c.lane-place.ensures.within c.index_mut-window.ensures.value c.requires.new
