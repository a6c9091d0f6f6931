-- A site whose hub did something is one.
use Rattle.std.proofs.Common.{◌≡◌, ◌<◌, ◌+◌, ◌^◌, arith, ℕ, [], ◌∷◌, ◌++◌, length, Option, Some, None, Ok, refl, sym, ap, subst, ◌∙◌}
use Rattle.std.proofs.lemmas.List.{get_or_default}
use Rattle.sat_label.specs.declared.label.Label.{Label}
use Rattle.sat_bulk.specs.declared.window.Take.TheVariants as take
use Rattle.sat_bulk.specs.Payloads.{Payload}
use Rattle.sat_beat.specs.declared.Beat.{Beat}
use Rattle.sat_beat.specs.declared.beats.BeatTake.TheVariants as came
use Rattle.sat_epoch.specs.declared.views.AdvanceFault.{AdvanceFault}
use Rattle.sat_epoch.specs.declared.views.CloseFault.{CloseFault}
use Rattle.sat_epoch.specs.declared.views.FallFault.{FallFault}
use Rattle.sat_epoch.specs.Epochs.{advance_fault, after_advance, after_close, after_fall, close_fault, fall_fault}
use Rattle.sat_proxy.specs.Steps.{advance_after, after_beat, after_bulk, has_come, left_after, stamp_shows, turn_after, turn_views}
use Rattle.sat_proxy.specs.declared.proxy.Turned.TheVariants as turn
use Rattle.sat_sink.specs.Sink.{after_close as sink_closed, cut_of, ready_of}
use Rattle.sat_hub.specs.Changes.{beat_for, beaten, made_for, stamped, turned}
use Rattle.sat_hub.specs.HubSteps as hub
use Rattle.sat_hub.specs.Inputs.{BulkFits}
use Rattle.sat_hub.specs.Seen.{HubSeen, IsHub}
use Rattle.sat_hub.proofs.Peers.{advance-hub, beat-hub, bulk-hub, stamp-hub, turn-hub}
use Rattle.sat_hub.proofs.Sound.{beaten-hub, close-hub, pulsed-hub, ready-here, sent-hub, views-hub}
use Rattle.sat_site_laws.proofs.Epoched.{closed-epochs, fell-epochs, passed-epochs, turned-epochs}
use Rattle.sat_proxy.proofs.Keeping.{bulk-sound}
use Rattle.sat_site_laws.proofs.Others.{advanced-proxy, beat-proxy, left-proxy, turned-proxy}

-- ---- what is sent

pub emits-hub : (h : HubSeen) (o : Option Label) → IsHub h → ready_of h.sink ≡ o → IsHub (hub.emit_after h o)
emits-hub h None k e = k
emits-hub h (Some l) k e = sent-hub h l k (ready-here h l k e).site

pub pulses-hub : (h : HubSeen) (o : Option Label) → IsHub h → IsHub (hub.pulse_after h o)
pulses-hub h None k = k
pulses-hub h (Some l) k = pulsed-hub h k

-- ---- epochs

pub closes-hub : (h : HubSeen) (o : Option CloseFault) → IsHub h → close_fault h.views ≡ o → IsHub (hub.close_after o h)
closes-hub h None k e = close-hub h (after_close h.views (cut_of h.sink)) (sink_closed h.sink) (cut_of h.sink) k (closed-epochs h.views (cut_of h.sink) k.views.sound e) refl refl refl
closes-hub h (Some f) k e = k

pub falls-hub : (h : HubSeen) (o : Option FallFault) → IsHub h → fall_fault h.views ≡ o → IsHub (hub.fall_after o h)
falls-hub h None k e = views-hub h (after_fall h.views) k (record { sound = fell-epochs h.views k.views.sound e; own = k.views.own; heard = k.views.heard }) refl
falls-hub h (Some f) k e = k

pub passes-hub : (h : HubSeen) (o : Option AdvanceFault) → IsHub h → advance_fault h.views (has_come h.views h.proxy) ≡ o → IsHub (hub.passed_after o h)
passes-hub h None k e =
    advance-hub h (Ok 0) (after_advance h.views) (advance_after h.views h.proxy) k (passed-epochs h.views (has_come h.views h.proxy) k.views.sound e) (advanced-proxy h.views h.proxy k.proxy.sound) refl refl tt tt
passes-hub h (Some f) k e = k

-- ---- what comes from others

pub turns-hub : (h : HubSeen) (front : Option Label) → IsHub h → IsHub (turned h front)
turns-hub h front k =
    turn-hub h (Ok (turn.Took (hub.close_label h))) (turn_views h.views front) (turn_after h.views h.proxy front) front k (turned-epochs h.views front k.views.sound) (turned-proxy h.views h.proxy front k.proxy.sound) refl refl tt tt

pub stamps-hub : (h : HubSeen) → IsHub h → IsHub (stamped h)
stamps-hub h k = go (stamp_shows h.views h.proxy) refl
  where
    go : (o : Option Payload) → stamp_shows h.views h.proxy ≡ o → IsHub (record h { proxy = left_after h.proxy o })
    go None e = k
    go (Some p) e = stamp-hub h (Ok p) (left_after h.proxy (Some p)) k (left-proxy h.proxy (Some p) k.proxy.sound) (ap (λ (o : Option Payload). left_after h.proxy o) (sym e)) tt

pub takes-hub : (h : HubSeen) (from gear n : ℕ) (p : Payload) → IsHub h → BulkFits h from gear n p → IsHub (record h { proxy = after_bulk h.proxy from gear n p })
takes-hub h from gear n p k fits =
    bulk-hub h (Ok take.New) (after_bulk h.proxy from gear n p) from gear n p k fits.guest
    (bulk-sound h.proxy from gear n p k.proxy.sound (subst (λ (m : ℕ). from < m) (sym k.proxy.sites) fits.sender) (subst (λ (m : ℕ). gear < m) (sym k.proxy.gears) fits.number) (next n fits.small) fits.made)
    refl tt
  where
    next : (a : ℕ) → a < 2 ^ 63 → a + 1 < 2 ^ 64
    next a lt = omega arith

pub hears-hub : (h : HubSeen) (from n : ℕ) (beat : Beat) → IsHub h → from < h.shape.sites → length beat.counts ≡ h.shape.gears → IsHub (record h { proxy = after_beat h.proxy from n beat })
hears-hub h from n beat k lt counts =
    beat-hub h (Ok came.New) (after_beat h.proxy from n beat) from n beat k
    (beat-proxy h.proxy from n beat k.proxy.sound (subst (λ (m : ℕ). from < m) (sym k.proxy.sites) lt) (counts ∙ sym k.proxy.gears))
    refl tt

pub beats-hub : (h : HubSeen) (j : ℕ) → IsHub h → j < h.shape.sites → IsHub (beaten h j)
beats-hub h j k lt =
    beaten-hub h h j (made_for h j) (made_for h j ++ beat_for h j ∷ []) (beat_for h j) refl k lt
    (get_or_default h.made j [] (made_for h j) (subst (λ (m : ℕ). j < m) (sym k.made.count) lt)) refl refl
