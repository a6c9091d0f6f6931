use Rattle.std.specs.List.{flat_map}
use Rattle.std.specs.Result.{result_ok}
use Rattle.std.proofs.Common.{List, length, map, subst, sym, ap, ◌∙◌, arith}
use Rattle.std.proofs.lemmas.List.{take_at}
use Rattle.sat_gear.specs.Gear.{GearSeen, after_drain, drained_of}
use Rattle.sat_sink.specs.Pending.{least, promise_of}
use Rattle.sat_hub.specs.Changes.{gathered}
use Rattle.sat_hub.specs.Seen.{IsGather}
use Rattle.sat_hub.proofs.Sound.{counted}
use Rattle.sat_site.specs.Seen.{AreGears}
use Rattle.sat_site.specs.Changes.{fresh_of}
use Rattle.sat_site.proofs.Deeds.{did-gather}
use Rattle.sat_site.proofs.Hubs.{gather-site, gives-all}
use Rattle.sat_site.proofs.site.Site.gather.Goals as goal

pub gather_from-requires : goal.gather_from-requires
gather_from-requires c = subst (λ (gears : List GearSeen). IsGather c.self.inside.hub (map drained_of gears)) (sym c.deref-2.ensures.value) (gives-all _ c.self.invariant)

pub invariant_of-self-2 : goal.invariant_of-self-2
invariant_of-self-2 c =
    gather-site _ _ _ _ c.self.invariant
    (c.in_ok-stable.ensures.after ∙ ap (λ (gears : List GearSeen). gathered c.self.inside.hub (map drained_of gears)) c.deref-2.ensures.value)
    (◌∙◌ {b = c.drain_all.new.gears} (take_at _ _ _ (omega arith)) (c.drain_all.ensures ∙ ap (map after_drain) c.deref_mut.ensures.value))
    (subst AreGears c.deref-3.ensures.value c.all_limits.ensures)

pub returns-clause-does : goal.returns-clause-does
returns-clause-does c =
    did-gather _ _ _ _ _ _ _ c.self.view_is
    (◌∙◌ {b = c.drain_all.new.gears} (take_at _ _ _ (omega arith)) (c.drain_all.ensures ∙ ap (map after_drain) c.deref_mut.ensures.value))
    (c.in_ok-stable.ensures.after ∙ ap (λ (gears : List GearSeen). gathered c.self.inside.hub (map drained_of gears)) c.deref-2.ensures.value)
    (counted c.count_labels.result c.in_ok-labels.labels _ c.count_labels.ensures (c.ok_or.ensures.ok_part ∙ ap result_ok c.in_ok-labels.was) ∙ ap (λ (gears : List GearSeen). length (flat_map fresh_of gears)) c.deref.ensures.value)
    (c.in_ok-stable.ensures.stable ∙ ap (λ (gears : List GearSeen). least (map promise_of (map drained_of gears))) c.deref-2.ensures.value)
