use Rattle.std.proofs.Common.{◌<◌, ◌-◌, ◌∙◌, List, Option, length, slice_get, ap, refl, subst, sym}
use Rattle.sat_net.specs.Nets.{NetSeen}
use Rattle.sat_site.specs.declared.output.SiteView.{SiteView}
use Rattle.sat_world.proofs.Deeds.{view-placed, net-seat, seen-front, turn-handed}
use Rattle.sat_world.proofs.Hands.{site-at}
use Rattle.sat_world.proofs.Reaching.{reach}
use Rattle.sat_world.proofs.world.World.handed_turn.Goals as goal

pub front_at-front-requires-clause-within : goal.front_at-front-requires-clause-within
front_at-front-requires-clause-within c =
    subst (λ (ns : List (Option NetSeen)). c.view.result.view - 1 < length ns) (sym c.deref.ensures.value)
    ((view-placed _ _ _ _ c.self.invariant (site-at _ _ _ _ c.self.view_is c.self.invariant c.requires c.index-known.ensures) c.view.ensures.sound (ap (λ (v : SiteView). v.view) c.view.ensures.seen)).within)

pub front_at-front-requires-clause-seat : goal.front_at-front-requires-clause-seat
front_at-front-requires-clause-seat c = λ n at. net-seat _ _ _ _ n c.self.view_is c.self.invariant c.requires (ap (λ (ns : List (Option NetSeen)). slice_get ns (c.view.result.view - 1)) (sym c.deref.ensures.value) ∙ at)

pub returns : goal.returns
returns c = reach _ _ _ _ _ c.self.view_is c.self.invariant c.requires refl c.requires
    (turn-handed _ _ _ _ _ _ c.self.view_is c.self.invariant c.requires c.index-known.ensures c.view.ensures.sound (ap (λ (v : SiteView). v.view) c.view.ensures.seen) (seen-front _ _ _ _ _ c.deref.ensures.value c.front_at-front.ensures))
