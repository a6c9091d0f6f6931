-- A site that takes an input stays one.
use Rattle.std.proofs.Common.{◌≡◌, refl}
use Rattle.sat_site.specs.declared.input.SiteInput.TheVariants as input
use Rattle.sat_epoch.specs.Epochs.{advance_fault, close_fault, fall_fault}
use Rattle.sat_proxy.specs.Steps.{has_come, stamp_shows, turn_shows}
use Rattle.sat_sink.specs.Sink.{ready_of}
use Rattle.sat_hub.specs.Changes.{beaten, stamped, turned}
use Rattle.sat_hub.specs.HubSteps as hub
use Rattle.sat_hub.specs.Seen.{HubSeen, IsHub}
use Rattle.sat_site.specs.Seen.{IsSite, SiteSeen, hub_of, with_hub}
use Rattle.sat_site.specs.SiteSteps.{site_after}
use Rattle.sat_site.proofs.Fitting.{fits-beat, fits-beat-in, fits-bulk, fits-move, fits-tick, fits-write}
use Rattle.sat_site.proofs.Hubs.{close-site, emit-site, fall-site, hub-is, kept-site, passed-site, pulse-site}
use Rattle.sat_site_laws.specs.Stays.{SitesStay}
use Rattle.sat_site_laws.proofs.Gearing.{gathers-site, moved-site, shown-site, ticked-site, written-site}
use Rattle.sat_site_laws.proofs.Hubbed.{beats-hub, closes-hub, emits-hub, falls-hub, hears-hub, passes-hub, pulses-hub, stamps-hub, takes-hub, turns-hub}

-- its hub became another one, of the same shape, and with what was gathered
with-site : (x : SiteSeen) (n : HubSeen) → IsSite x → IsHub n → n.shape ≡ x.shape → n.sink.promises ≡ x.sink.promises → IsSite (with_hub x n)
with-site x n k hub same promises = kept-site (hub_of x) n x.gears k hub same promises

pub stay : SitesStay
unfolding site_after
stay x (input.Tick g t) k fits = ticked-site x g t k (fits-tick x g t fits).1
stay x (input.Write seen items values) k fits = let w = fits-write x seen items values fits in written-site x seen.point items values k w.0 w.1
stay x (input.Read seen n) k fits = k
stay x (input.Move seen j) k fits = moved-site x seen j k (fits-move x seen j fits)
stay x (input.Attach seen) k fits = k
stay x input.Gather k fits = gathers-site x k
stay x input.Emit k fits = emit-site (hub_of x) (hub.emit_after (hub_of x) (ready_of x.sink)) (ready_of x.sink) x.gears k (emits-hub (hub_of x) (ready_of x.sink) (hub-is x k) refl) refl
stay x input.Pulse k fits = pulse-site (hub_of x) (hub.pulse_after (hub_of x) (hub.next_pulse x.sink)) (hub.next_pulse x.sink) x.gears k (pulses-hub (hub_of x) (hub.next_pulse x.sink) (hub-is x k)) refl
stay x (input.Turn front) k fits =
    shown-site (with_hub x (turned (hub_of x) front)) (turn_shows x.views x.proxy front) (with-site x (turned (hub_of x) front) k (turns-hub (hub_of x) front (hub-is x k)) refl refl)
stay x (input.Bulk from gear number p) k fits = with-site x _ k (takes-hub (hub_of x) from gear number p (hub-is x k) (fits-bulk x from gear number p fits)) refl refl
stay x (input.Beat j) k fits = with-site x (beaten (hub_of x) j) k (beats-hub (hub_of x) j (hub-is x k) (fits-beat x j fits)) refl refl
stay x (input.BeatIn from number beat) k fits =
    let w = fits-beat-in x from number beat fits in
    with-site x _ k (hears-hub (hub_of x) from number beat (hub-is x k) w.0 w.1) refl refl
stay x input.Stamp k fits = shown-site (with_hub x (stamped (hub_of x))) (stamp_shows x.views x.proxy) (with-site x (stamped (hub_of x)) k (stamps-hub (hub_of x) (hub-is x k)) refl refl)
stay x input.Close k fits = close-site (hub_of x) (hub.close_after (close_fault x.views) (hub_of x)) (close_fault x.views) x.gears k (closes-hub (hub_of x) (close_fault x.views) (hub-is x k) refl) refl
stay x input.Fall k fits = fall-site (hub_of x) (hub.fall_after (fall_fault x.views) (hub_of x)) (fall_fault x.views) x.gears k (falls-hub (hub_of x) (fall_fault x.views) (hub-is x k) refl) refl
stay x input.Advance k fits =
    passed-site (hub_of x) (hub.passed_after (advance_fault x.views (has_come x.views x.proxy)) (hub_of x)) (advance_fault x.views (has_come x.views x.proxy)) x.gears k
    (passes-hub (hub_of x) (advance_fault x.views (has_come x.views x.proxy)) (hub-is x k) refl) refl
