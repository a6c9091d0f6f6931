-- What a hub that sent something stands for then, and how far it is from having nothing left to send.
use Rattle.std.proofs.Common.{◌≡◌, ℕ, ◌+◌, ◌<◌, ◌==◌, ◌&&◌, not, Bool, true, false, ◌∷◌, [], ◌++◌, length, Option, Some, refl, sym, ap, ◌∙◌, subst, arith}
use Rattle.std.specs.Prelude.{nat_le, nat_lt, is_some, if◌then◌else◌}
use Rattle.sat_label.specs.declared.label.Label.{Label}
use Rattle.sat_label.specs.Order.{label_eq}
use Rattle.sat_label.proofs.Least.{least-is}
use Rattle.sat_act.specs.declared.answer.Answer.{Answer}
use Rattle.sat_act.specs.declared.answer.Answer.TheVariants as ans
use Rattle.sat_act.specs.Deployed.{Deployed}
use Rattle.sat_act.specs.Settling.{is_done}
use Rattle.sat_model.specs.Look.{ready_of, rows, stable_of}
use Rattle.sat_model.specs.Next.{note_of as machine_note}
use Rattle.sat_hub.specs.Changes.{beat_for, made_for}
use Rattle.sat_hub.specs.Seen.{HubSeen, IsHub}
use Rattle.sat_site.specs.SiteSteps.{emit_answer}
use Rattle.sat_joint.specs.Machines.{HubState, hub_alone, whole}
use Rattle.sat_hub_laws.specs.Hubs.{hub_answer, hub_then}
use Rattle.sat_hub_laws.specs.Inputs as model
use Rattle.sat_hub_laws.proofs.Sites.{alone-answers}
use Rattle.sat_parts.specs.declared.hub_input.HubInput.TheVariants as hub
use Rattle.sat_parts.specs.HubSteps.{HasTimes}
use Rattle.sat_parts.specs.Hubs.{StandsHub}
use Rattle.sat_parts.proofs.Instead.{gear_states, is-site, site_for, stands-site}
use Rattle.sat_passes.specs.Sendings.{last_made}
use Rattle.sat_passes.proofs.Following.{IsNoted, and-false, emit-by, emitted-is, last-more, last-note, not-less, noted-told, pending-is, pulse-by, pulsed-is, pulses, rows-less, same-label, same-number, told-noted}
use Rattle.sat_parts_passes.specs.Sendings.{AreTold, Follows, IsIdle, IsTold, StaysSent, pending_count, would_do}
use Rattle.sat_parts_passes.proofs.Sent.{told_more, would-is}

module _ (d : Deployed) (i : ℕ) (x : HubSeen) (h : HubState) (k : IsHub x) (times : HasTimes x) (st : StandsHub d i x h) where
  -- what a site with this hub has left to do, the hub has
  emit-hub : would_do x hub.Emit ≡ is_done (emit_answer (ready_of d (hub_alone d i h)))
  emit-hub = would-is x hub.Emit refl ∙ emit-by d i (site_for x) (whole d i h (gear_states x)) (is-site x k times) (stands-site d i x h st)

  pulse-hub : would_do x hub.Pulse ≡ pulses d (hub_alone d i h)
  pulse-hub = would-is x hub.Pulse refl ∙ pulse-by d i (site_for x) (whole d i h (gear_states x)) (is-site x k times) (stands-site d i x h st)

  pending-hub : pending_count x ≡ length (rows h.sink.pending d.gears)
  pending-hub = pending-is d i (site_for x) (whole d i h (gear_states x)) (is-site x k times) (stands-site d i x h st)

  told-hub : (j : ℕ) → j < d.sites → last_made (made_for x j) ≡ Some (beat_for x j) → IsNoted d i (hub_alone d i h) j
  told-hub j less told = told-noted d i (site_for x) (whole d i h (gear_states x)) j less (is-site x k times) (stands-site d i x h st) told

  noted-hub : (j : ℕ) → j < d.sites → IsNoted d i (hub_alone d i h) j → last_made (made_for x j) ≡ Some (beat_for x j)
  noted-hub j less noted = noted-told d i (site_for x) (whole d i h (gear_states x)) j less (is-site x k times) (stands-site d i x h st) noted

-- ---- an emission lowers the number of pending labels

next-less : (d : Deployed) (i : ℕ) (h : HubState) (l : Label) → ready_of d (hub_alone d i h) ≡ Some l
    → length (rows (hub_then d i h model.Emit (ans.Emitted l)).sink.pending d.gears) < length (rows h.sink.pending d.gears)
next-less d i h l ready =
    let k = least-is (λ m. nat_le m.point.ts (stable_of d (hub_alone d i h))) (rows h.sink.pending d.gears) l ready in
    rows-less (λ m. not (label_eq l m)) h.sink.pending d.gears l k.member (same-label l)

pub emitted_less : (d : Deployed) (i : ℕ) (x y : HubSeen) → Follows d i hub.Emit x y → pending_count y < pending_count x
emitted_less d i x y f =
    let same = alone-answers d i f.state model.Emit refl in
    let e = emitted-is d i (hub_alone d i f.state) (sym (ap is_done same) ∙ f.done) in
    let less = next-less d i f.state e.0 e.1 in
    let was = pending-hub d i x f.state f.hub f.times f.before in
    let now = pending-hub d i y (hub_then d i f.state model.Emit (ans.Emitted e.0)) f.stays f.timely
    (subst (λ (a : Answer). StandsHub d i y (hub_then d i f.state model.Emit a)) (same ∙ e.2) f.after) in
    omega arith

-- ---- what is left to emit, and whether a pulse is

next-pulses : (d : Deployed) (i : ℕ) (h : HubState) (l : Label) → l.point.ts ≡ stable_of d (hub_alone d i h) → pulses d (hub_alone d i (hub_then d i h model.Pulse (ans.Pulsed l))) ≡ false
next-pulses d i h l e =
    ap (λ (b : Bool). not (is_some (ready_of d (hub_alone d i h))) && b) (ap (λ (t : ℕ). nat_lt t (stable_of d (hub_alone d i h))) e ∙ not-less (stable_of d (hub_alone d i h))) ∙ and-false (not (is_some (ready_of d (hub_alone d i h))))

next-ready : (d : Deployed) (i : ℕ) (h : HubState) (l : Label) → ready_of d (hub_alone d i (hub_then d i h model.Pulse (ans.Pulsed l))) ≡ ready_of d (hub_alone d i h)
next-ready d i h l = refl

-- after a pulse none is left
pub pulsed_none : (d : Deployed) (i : ℕ) (x y : HubSeen) → Follows d i hub.Pulse x y → would_do y hub.Pulse ≡ false
pulsed_none d i x y f =
    let same = alone-answers d i f.state model.Pulse refl in
    let e = pulsed-is d i (hub_alone d i f.state) (sym (ap is_done same) ∙ f.done) in
    pulse-hub d i y (hub_then d i f.state model.Pulse (ans.Pulsed e.0)) f.stays f.timely
    (subst (λ (a : Answer). StandsHub d i y (hub_then d i f.state model.Pulse a)) (same ∙ e.2) f.after) ∙ next-pulses d i f.state e.0 e.1

-- and what is left to emit stays
pub pulsed_emit : (d : Deployed) (i : ℕ) (x y : HubSeen) → Follows d i hub.Pulse x y → would_do y hub.Emit ≡ would_do x hub.Emit
pulsed_emit d i x y f =
    let same = alone-answers d i f.state model.Pulse refl in
    let e = pulsed-is d i (hub_alone d i f.state) (sym (ap is_done same) ∙ f.done) in
    emit-hub d i y (hub_then d i f.state model.Pulse (ans.Pulsed e.0)) f.stays f.timely
    (subst (λ (a : Answer). StandsHub d i y (hub_then d i f.state model.Pulse a)) (same ∙ e.2) f.after)
    ∙ (ap (λ (o : Option Label). is_done (emit_answer o)) (next-ready d i f.state e.0) ∙ sym (emit-hub d i x f.state f.hub f.times f.before))

-- ---- beats

abbrev beaten : Deployed → ℕ → HubState → ℕ → HubState
beaten d i h j = hub_then d i h (model.Beat j) (ans.Beat (length (h.made_beats j)))

noted-here : (d : Deployed) (i : ℕ) (h : HubState) (j : ℕ) → IsNoted d i (hub_alone d i (beaten d i h j)) j
noted-here d i h j =
    ap (λ (b : Bool). last-note (if b then h.made_beats j ++ machine_note d i (hub_alone d i h) j ∷ [] else h.made_beats j)) (same-number j) ∙ last-more (h.made_beats j) (machine_note d i (hub_alone d i h) j)

noted-there : (d : Deployed) (i : ℕ) (h : HubState) (j k : ℕ) → IsNoted d i (hub_alone d i h) k → IsNoted d i (hub_alone d i (beaten d i h j)) k
noted-there d i h j k noted = go (j == k) where
  go : (b : Bool) → last-note (if b then h.made_beats k ++ machine_note d i (hub_alone d i h) k ∷ [] else h.made_beats k) ≡ Some (machine_note d i (hub_alone d i h) k)
  go true = last-more (h.made_beats k) (machine_note d i (hub_alone d i h) k)
  go false = noted

beat-is : (d : Deployed) (i : ℕ) (h : HubState) (j : ℕ) → hub_answer d i h (model.Beat j) ≡ ans.Beat (length (h.made_beats j))
unfolding hub_answer
beat-is d i h j = refl

beaten-stands : (d : Deployed) (i j : ℕ) (x y : HubSeen) → (f : Follows d i (hub.Beat j) x y) → StandsHub d i y (beaten d i f.state j)
beaten-stands d i j x y f = subst (λ (a : Answer). StandsHub d i y (hub_then d i f.state (model.Beat j) a)) (beat-is d i f.state j) f.after

-- after a beat for a site it is told
pub beaten_told : (d : Deployed) (i j : ℕ) (x y : HubSeen) → j < d.sites → Follows d i (hub.Beat j) x y → IsTold y j
beaten_told d i j x y less f = λ differ. noted-hub d i y (beaten d i f.state j) f.stays f.timely (beaten-stands d i j x y f) j less (noted-here d i f.state j)

next-ready-same : (d : Deployed) (i : ℕ) (h : HubState) (j : ℕ) → ready_of d (hub_alone d i (beaten d i h j)) ≡ ready_of d (hub_alone d i h)
next-ready-same d i h j = refl

next-pulse-same : (d : Deployed) (i : ℕ) (h : HubState) (j : ℕ) → pulses d (hub_alone d i (beaten d i h j)) ≡ pulses d (hub_alone d i h)
next-pulse-same d i h j = refl

-- and all else stays
pub beaten_stays : (d : Deployed) (i j : ℕ) (x y : HubSeen) → Follows d i (hub.Beat j) x y → StaysSent d.sites x y
beaten_stays d i j x y f =
    let sn = beaten-stands d i j x y f in
    let shape : y.shape ≡ x.shape = f.after.shape ∙ sym f.before.shape in
    record {
      shape = shape;
      emit = emit-hub d i y (beaten d i f.state j) f.stays f.timely sn ∙ (ap (λ (o : Option Label). is_done (emit_answer o)) (next-ready-same d i f.state j) ∙ sym (emit-hub d i x f.state f.hub f.times f.before));
      pulse = pulse-hub d i y (beaten d i f.state j) f.stays f.timely sn ∙ (next-pulse-same d i f.state j ∙ sym (pulse-hub d i x f.state f.hub f.times f.before));
      told = λ k less told differ. noted-hub d i y (beaten d i f.state j) f.stays f.timely sn k less
          (noted-there d i f.state j k (told-hub d i x f.state f.hub f.times f.before k less (told (λ e. differ (e ∙ sym (ap (λ s. s.site) shape))))));
    }

pub stays_same : (n : ℕ) (x y : HubSeen) → y ≡ x → StaysSent n x y
stays_same n x y e = record {
  shape = ap (λ (z : HubSeen). z.shape) e;
  emit = ap (λ (z : HubSeen). would_do z hub.Emit) e;
  pulse = ap (λ (z : HubSeen). would_do z hub.Pulse) e;
  told = λ j less told. subst (λ (z : HubSeen). IsTold z j) (sym e) told;
}

pub stays_then : (n : ℕ) (x y z : HubSeen) → StaysSent n x y → StaysSent n y z → StaysSent n x z
stays_then n x y z a b = record {
  shape = b.shape ∙ a.shape;
  emit = b.emit ∙ a.emit;
  pulse = b.pulse ∙ a.pulse;
  told = λ j less told. b.told j less (a.told j less told);
}

-- one site more is told
pub told_on : (sites n : ℕ) (x y : HubSeen) → n < sites → StaysSent sites x y → AreTold n x → IsTold y n → AreTold (n + 1) y
told_on sites n x y less stays all here = told_more y n (λ j lt. stays.told j (omega arith) (all j lt)) here

-- nothing is left to send
pub idle_is : (n : ℕ) (x y z : HubSeen) → y.shape.sites ≡ n → would_do x hub.Emit ≡ false → would_do y hub.Emit ≡ would_do x hub.Emit → would_do y hub.Pulse ≡ false → StaysSent n y z → AreTold n z → IsIdle z
idle_is n x y z sites none emit pulse stays told = record {
  emit = stays.emit ∙ (emit ∙ none);
  pulse = stays.pulse ∙ pulse;
  beats = subst (λ (m : ℕ). AreTold m z) (sym (ap (λ s. s.sites) stays.shape ∙ sites)) told;
}
