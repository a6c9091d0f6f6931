-- The payload that a hub gives to gears is the one that the model's hub shows.
use Rattle.std.specs.Prelude.{◌≡◌, ℕ, Bool, true, false, Option, Some, None, if◌then◌else◌, refl}
use Rattle.std.proofs.Common.{ap, sym, ◌∙◌}
use Rattle.sat_label.specs.declared.label.Label.{Label}
use Rattle.sat_label.specs.declared.label.Kind.{Kind}
use Rattle.sat_label.specs.declared.label.Kind.TheVariants.{Update, Move, Pulse, Close}
use Rattle.sat_label.specs.declared.point.Point.{Point}
use Rattle.sat_label.specs.Members.{In}
use Rattle.sat_bulk.specs.Payloads.{Payload}
use Rattle.sat_pool.specs.Pool.{all_waiting}
use Rattle.sat_epoch.specs.Epochs.{in_stamp}
use Rattle.sat_act.specs.declared.answer.Answer.TheVariants as ans
use Rattle.sat_act.specs.Deployed.{Deployed}
use Rattle.sat_model.specs.Look.{payload_in}
use Rattle.sat_proxy.specs.declared.proxy.TurnFault.TheVariants as turn
use Rattle.sat_proxy.specs.declared.proxy.StampFault.TheVariants as stamp
use Rattle.sat_proxy.specs.Steps as made
use Rattle.sat_proxy.specs.Answers.{done_answer, front_answer, next_answer, stamp_answer, turn_answer}
use Rattle.sat_hub.specs.Seen.{HubSeen, IsHub}
use Rattle.sat_hub.proofs.Waits.{Found, found, Next, next-payload}
use Rattle.sat_site.proofs.Shows.{parts-are}
use Rattle.sat_joint.specs.Machines.{HubState, shown_by}
use Rattle.sat_hub_laws.specs.Hubs.{hub_shows as shown_payload}
use Rattle.sat_parts.specs.HubSteps.{HasTimes}
use Rattle.sat_parts.specs.Hubs.{StandsHub}
use Rattle.sat_parts.proofs.Instead.{is-site, site_for}

-- what waits is what the model's hub shows under its label
waiting-shown : (d : Deployed) (i : ℕ) (x : HubSeen) (h : HubState) (p : Payload) (l : Label) → IsHub x → HasTimes x → StandsHub d i x h → In (all_waiting x.proxy.pool) p → p.label ≡ l → Some p ≡ Some (shown_by h l)
waiting-shown d i x h p l k times st there e =
    let parts : payload_in h.proxy.pool p.label ≡ p.values = parts-are (site_for x) h.proxy.pool p (is-site x k times) st.proxy.pool there in
    let same : p ≡ shown_by h p.label = (λ j. record { label = p.label; values = sym parts j }) in
    ap Some same ∙ ap (λ (m : Label). Some (shown_by h m)) e

-- ---- a turn

module _ (d : Deployed) (i : ℕ) (x : HubSeen) (h : HubState) (k : IsHub x) (times : HasTimes x) (st : StandsHub d i x h) where
  abbrev label_with : Point → Kind → Label
  label_with p kind = record { point = p; kind = kind }

  waits : (l : Label) (o : Option Payload) → made.waiting_of x.proxy.pool l ≡ o → (items : _) → l.kind ≡ Update items → o ≡ shown_payload h (front_answer (made.missing l o) (Some l))
  waits l None at items e = refl
  waits l (Some p) at items e =
      let w : Found x.proxy.pool l p = found x.proxy.pool l p at in
      waiting-shown d i x h p l k times st w.there w.label ∙ ap (shown_payload h) (shown l.kind e)
    where
      shown : (kind : Kind) → kind ≡ Update items → ans.Shown l ≡ done_answer l kind
      shown (Update others) e = refl
      shown (Move j) e = absurd (cc)
      shown Pulse e = absurd (cc)
      shown (Close n) e = absurd (cc)

  fronts : (p : Point) (kind : Kind) → made.front_shows x.proxy.pool (label_with p kind) kind ≡ shown_payload h (front_answer (made.front_fault x.proxy.pool (label_with p kind) kind) (Some (label_with p kind)))
  fronts p (Update items) = waits (label_with p (Update items)) (made.waiting_of x.proxy.pool (label_with p (Update items))) refl items refl
  fronts p (Move j) = refl
  fronts p Pulse = refl
  fronts p (Close n) = refl

  pub turn-shows : (front : Option Label) → made.turn_shows x.views x.proxy front ≡ shown_payload h (turn_answer x.views x.proxy front)
  turn-shows front = go (in_stamp x.views) front
    where
      go : (b : Bool) (front : Option Label) → (if b then None else made.link_shows x.proxy.pool front) ≡ shown_payload h (front_answer (if b then Some turn.StampOrder else made.link_fault x.proxy.pool front) front)
      go true front = refl
      go false None = refl
      go false (Some l) = fronts l.point l.kind

  -- ---- a stamp

  stamps : (o : Option Label) → made.stamp_label x.views x.proxy ≡ o → made.payload_at x.proxy.pool o ≡ shown_payload h (next_answer (made.not_yet o) o)
  stamps None at = refl
  stamps (Some l) at =
      let n : Next x.views x.proxy l = next-payload x.views x.proxy l k.proxy.sound at in
      n.found ∙ waiting-shown d i x h n.payload l k times st n.there n.label

  pub stamp-shows : made.stamp_shows x.views x.proxy ≡ shown_payload h (stamp_answer x.views x.proxy)
  stamp-shows = go (in_stamp x.views)
    where
      go : (b : Bool) → (if b then made.payload_at x.proxy.pool (made.stamp_label x.views x.proxy) else None) ≡ shown_payload h (next_answer (if b then made.not_yet (made.stamp_label x.views x.proxy) else Some stamp.TreeOrder) (made.stamp_label x.views x.proxy))
      go true = stamps (made.stamp_label x.views x.proxy) refl
      go false = refl
