use Rattle.std.proofs.Common.{ap, refl}
use Rattle.sat_site.specs.declared.input.SiteInput.TheVariants as input
use Rattle.sat_site.specs.declared.output.SiteView.{SiteView}
use Rattle.sat_world.proofs.Counted.{plainly}
use Rattle.sat_world.proofs.Deeds.{emission-placed, net-seat, did-send}
use Rattle.sat_world.proofs.Hands.{fit-here, hands-at, site-at}
use Rattle.sat_world.proofs.Runs.{seen-as, stays}
use Rattle.sat_world.proofs.world.World.pulse.Goals as goal

pub send_at-requires-clause-within : goal.send_at-requires-clause-within
send_at-requires-clause-within c =
    (emission-placed _ _ _ _ c.self.invariant (site-at _ _ _ _ c.self.view_is c.self.invariant c.requires c.index-known.ensures) c.view-epoch.ensures.sound (ap (λ (v : SiteView). v.emission) c.view-epoch.ensures.seen)).within

pub send_at-requires-clause-seat : goal.send_at-requires-clause-seat
send_at-requires-clause-seat c = λ n at. net-seat _ _ _ _ n c.self.view_is c.self.invariant c.requires at

pub pulse_at-requires-clause-fits : goal.pulse_at-requires-clause-fits
pulse_at-requires-clause-fits c = fit-here _ _ _ _ _ c.self.view_is c.self.invariant c.requires (hands-at _ _ input.Pulse refl)

pub invariant_of-self-2 : goal.invariant_of-self-2
invariant_of-self-2 c = stays _ _ _ _ _ c.self.view_is c.self.invariant c.requires refl
    (did-send _ _ _ _ input.Pulse _ _ _ _ _ c.self.view_is c.self.invariant c.requires refl c.index-known.ensures c.view-epoch.ensures.sound (ap (λ (v : SiteView). v.emission) c.view-epoch.ensures.seen) c.sends-sent.ensures c.in_ok-send_at.ensures.ok c.pulse_at.ensures)

pub returns-clause-applies : goal.returns-clause-applies
returns-clause-applies c = plainly _ _ _ _ _ c.self.view_is c.self.invariant c.requires refl refl
    (seen-as _ _ _ _ _ c.self.view_is
    (did-send _ _ _ _ input.Pulse _ _ _ _ _ c.self.view_is c.self.invariant c.requires refl c.index-known.ensures c.view-epoch.ensures.sound (ap (λ (v : SiteView). v.emission) c.view-epoch.ensures.seen) c.sends-sent.ensures c.in_ok-send_at.ensures.ok c.pulse_at.ensures))
