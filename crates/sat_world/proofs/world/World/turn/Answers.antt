use Rattle.std.proofs.Common.{◌<◌, ◌-◌, ◌∙◌, List, Option, length, slice_get, ap, refl, subst, sym}
use Rattle.sat_net.specs.Nets.{NetSeen}
use Rattle.sat_site.specs.declared.output.SiteView.{SiteView}
use Rattle.sat_world.proofs.Counted.{applies, counted-so, counts-as}
use Rattle.sat_world.proofs.Counting.{recounted}
use Rattle.sat_world.proofs.Deeds.{view-placed, net-seat, seen-front, turn-handed, did-turn}
use Rattle.sat_world.proofs.Hands.{fit-here, site-at}
use Rattle.sat_world.proofs.Runs.{stays}
use Rattle.sat_world.proofs.world.World.turn.Goals as goal

pub front_at-front-requires-clause-within : goal.front_at-front-requires-clause-within
front_at-front-requires-clause-within c =
    subst (λ (ns : List (Option NetSeen)). c.view.result.view - 1 < length ns) (sym c.deref.ensures.value)
    ((view-placed _ _ _ _ c.self.invariant (site-at _ _ _ _ c.self.view_is c.self.invariant c.requires c.index-known.ensures) c.view.ensures.sound (ap (λ (v : SiteView). v.view) c.view.ensures.seen)).within)

pub front_at-front-requires-clause-seat : goal.front_at-front-requires-clause-seat
front_at-front-requires-clause-seat c = λ n at. net-seat _ _ _ _ n c.self.view_is c.self.invariant c.requires (ap (λ (ns : List (Option NetSeen)). slice_get ns (c.view.result.view - 1)) (sym c.deref.ensures.value) ∙ at)

pub turn_at-answer-requires-clause-fits : goal.turn_at-answer-requires-clause-fits
turn_at-answer-requires-clause-fits c = fit-here _ _ _ _ _ c.self.view_is c.self.invariant c.requires
    (turn-handed _ _ _ _ _ _ c.self.view_is c.self.invariant c.requires c.index-known.ensures c.view.ensures.sound (ap (λ (v : SiteView). v.view) c.view.ensures.seen) (seen-front _ _ _ _ _ c.deref.ensures.value c.front_at-front.ensures))

pub take_at-requires-clause-within : goal.take_at-requires-clause-within
take_at-requires-clause-within c =
    (view-placed _ _ _ _ c.self.invariant (site-at _ _ _ _ c.self.view_is c.self.invariant c.requires c.index-known.ensures) c.view.ensures.sound (ap (λ (v : SiteView). v.view) c.view.ensures.seen)).within

pub take_at-requires-clause-seat : goal.take_at-requires-clause-seat
take_at-requires-clause-seat c = λ n at. net-seat _ _ _ _ n c.self.view_is c.self.invariant c.requires at

pub invariant_of-self : goal.invariant_of-self
invariant_of-self c = recounted _ _ (stays _ _ _ _ _ c.self.view_is c.self.invariant c.requires refl
    (did-turn _ _ _ _ _ _ _ _ _ c.self.view_is c.self.invariant c.requires c.index-known.ensures c.view.ensures.sound (ap (λ (v : SiteView). v.view) c.view.ensures.seen) (seen-front _ _ _ _ _ c.deref.ensures.value c.front_at-front.ensures) c.turn_at-answer.ensures c.take_at.ensures))

pub returns-clause-applies : goal.returns-clause-applies
returns-clause-applies c = applies _ _ _ _ _ c.self.view_is c.self.invariant c.requires refl
    (counts-as _ _ _ _ _ c.self.view_is (counted-so _ _ _ _ _ _ refl
    (did-turn _ _ _ _ _ _ _ _ _ c.self.view_is c.self.invariant c.requires c.index-known.ensures c.view.ensures.sound (ap (λ (v : SiteView). v.view) c.view.ensures.seen) (seen-front _ _ _ _ _ c.deref.ensures.value c.front_at-front.ensures) c.turn_at-answer.ensures c.take_at.ensures) c.more_shown-self-inside.ensures))
