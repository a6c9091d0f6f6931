use Rattle.std.proofs.Common.{◌<◌, length, sym, ap, subst, take, ◌∙◌}
use Rattle.sat_proxy.specs.Proxy.{ProxySeen, lane_place}
use Rattle.sat_proxy.specs.Steps.{ComeNext, after_bulks}
use Rattle.sat_proxy.proofs.Bulks.{bulks-done, bulks-next}
use Rattle.sat_proxy.proofs.proxy.Proxy.bulk_all.Goals as goal

pub invariant_of-self : goal.invariant_of-self
invariant_of-self c =
    let lt : c.args.from < c.self.inside.sites = subst (λ (p : ProxySeen). c.args.from < p.sites) (sym c.self.view_is) c.requires.from in
    let lg : c.args.gear < c.self.inside.gears = subst (λ (p : ProxySeen). c.args.gear < p.gears) (sym c.self.view_is) c.requires.gear in
    let within : c.lane-place.result < length c.self.inside.windows.items = subst (λ (p : ProxySeen). c.lane-place.result < length p.windows) (sym c.self.view_is) c.lane-place.ensures.within in
    let done = bulks-done _ c.args.from c.args.gear c.args.first (take c.bring_all-count.result c.args.payloads.items) c.lane-place.result c.self.inside.fronts.items _ _ _ c.bring_all-count.new.window _ c.front.result c.bring_all-count.new.pool c.refresh.new.self c.self.invariant.1 lt lg c.self.invariant.0 (c.lane-place.ensures.place ∙ ap (λ (p : ProxySeen). lane_place p c.args.from c.args.gear) (sym c.self.view_is)) within c.index_mut-window.ensures.value c.bring_all-count.ensures.lane c.index.ensures c.front.ensures.front c.front.ensures.limits c.as_slice.ensures.value c.fronts_from-fronts.ensures c.refresh.ensures.new c.refresh.ensures.best c.limits.ensures.pool c.limits.ensures.beats in
    (done.fronts, done.sound)

pub returns-clause-new : goal.returns-clause-new
returns-clause-new c =
    let lt : c.args.from < c.self.inside.sites = subst (λ (p : ProxySeen). c.args.from < p.sites) (sym c.self.view_is) c.requires.from in
    let lg : c.args.gear < c.self.inside.gears = subst (λ (p : ProxySeen). c.args.gear < p.gears) (sym c.self.view_is) c.requires.gear in
    let within : c.lane-place.result < length c.self.inside.windows.items = subst (λ (p : ProxySeen). c.lane-place.result < length p.windows) (sym c.self.view_is) c.lane-place.ensures.within in
    let done = bulks-done _ c.args.from c.args.gear c.args.first (take c.bring_all-count.result c.args.payloads.items) c.lane-place.result c.self.inside.fronts.items _ _ _ c.bring_all-count.new.window _ c.front.result c.bring_all-count.new.pool c.refresh.new.self c.self.invariant.1 lt lg c.self.invariant.0 (c.lane-place.ensures.place ∙ ap (λ (p : ProxySeen). lane_place p c.args.from c.args.gear) (sym c.self.view_is)) within c.index_mut-window.ensures.value c.bring_all-count.ensures.lane c.index.ensures c.front.ensures.front c.front.ensures.limits c.as_slice.ensures.value c.fronts_from-fronts.ensures c.refresh.ensures.new c.refresh.ensures.best c.limits.ensures.pool c.limits.ensures.beats in
    done.after ∙ ap (λ (p : ProxySeen). after_bulks p c.args.from c.args.gear c.args.first (take c.bring_all-count.result c.args.payloads.items)) c.self.view_is

pub returns-clause-next : goal.returns-clause-next
returns-clause-next c =
    let lt : c.args.from < c.self.inside.sites = subst (λ (p : ProxySeen). c.args.from < p.sites) (sym c.self.view_is) c.requires.from in
    let within : c.lane-place.result < length c.self.inside.windows.items = subst (λ (p : ProxySeen). c.lane-place.result < length p.windows) (sym c.self.view_is) c.lane-place.ensures.within in
    subst (λ (p : ProxySeen). ComeNext p c.args.from c.args.gear c.args.first c.args.payloads.items c.bring_all-count.result) c.self.view_is
    (bulks-next _ c.args.from c.args.gear c.args.first c.bring_all-count.result c.args.payloads.items c.lane-place.result _ c.self.invariant.1 lt
    (c.lane-place.ensures.place ∙ ap (λ (p : ProxySeen). lane_place p c.args.from c.args.gear) (sym c.self.view_is)) within c.index_mut-window.ensures.value c.bring_all-count.ensures.next)
