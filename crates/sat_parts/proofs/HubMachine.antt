-- A hub's node as a machine: fits, answers and steps, of each input.
use Rattle.std.specs.Prelude.{◌≡◌, ◌<◌, ℕ, Bool, true, false, List, length, map, Option, Some, None, refl}
use Rattle.std.specs.List.{flat_map, list_all}
use Rattle.sat_sink.specs.Pending.{labels_of, least, promise_of}
use Rattle.std.proofs.Common.{subst, ap, sym, ◌∙◌, inl, inr}
use Rattle.std.proofs.lemmas.Bool.{and_parts}
use Rattle.sat_label.specs.declared.label.Label.{Label}
use Rattle.sat_label.specs.declared.node.NodeName.{NodeName}
use Rattle.sat_label.specs.declared.node.NodeName.TheVariants as named
use Rattle.sat_bulk.specs.declared.Drained.{Drained}
use Rattle.sat_sites.specs.declared.shape.Shape.{Shape}
use Rattle.sat_act.specs.declared.answer.Answer.{Answer}
use Rattle.sat_act.specs.declared.answer.Answer.TheVariants as ans
use Rattle.sat_act.specs.Deployed.{Deployed}
use Rattle.sat_act.specs.Limits.{IsDeployment}
use Rattle.sat_epoch.specs.declared.views.CloseFault.{CloseFault}
use Rattle.sat_epoch.specs.declared.views.FallFault.{FallFault}
use Rattle.sat_epoch.specs.declared.views.AdvanceFault.{AdvanceFault}
use Rattle.sat_epoch.specs.Epochs.{advance_fault, close_fault, fall_fault}
use Rattle.sat_sink.specs.Sink.{ready_of}
use Rattle.sat_proxy.specs.Steps.{has_come}
use Rattle.sat_hub.specs.HubSteps.{close_after, emit_after, fall_after, next_pulse, passed_after, pulse_after, sent_epoch}
use Rattle.sat_hub.specs.Seen.{HubSeen, IsGather, IsHub}
use Rattle.sat_site.specs.Laws.{EachFits, EachStep}
use Rattle.sat_joint.specs.Machines.{HubState, hub_alone}
use Rattle.sat_hub_laws.specs.Hubs.{hub_answer, hub_fits, hub_then, site_of_hub, hub_shows as shown_payload}
use Rattle.sat_hub_laws.proofs.Sites.{alone-answers}
use Rattle.sat_joint.proofs.Sites.{IsOfHub, hub-answers, is_gears, is_show}
use Rattle.sat_machines.specs.Layout.{label_link}
use Rattle.sat_machines.specs.Plain.{is_plain}
use Rattle.sat_machines.specs.Sites.{epoch_by, number_of, sent_by}
use Rattle.sat_model.specs.Fits.{fits}
use Rattle.sat_machines.proofs.Plain.{beat_plain, plain_answer}
use Rattle.sat_parts.specs.declared.hub_answer.HubAnswer.{HubAnswer}
use Rattle.sat_parts.specs.declared.hub_input.HubInput.{HubInput}
use Rattle.sat_parts.specs.declared.hub_input.HubInput.TheVariants as hub
use Rattle.sat_parts.specs.Acts.{HubActSeen, IsBy, hub_handed, is_hub_clients, site_handed}
use Rattle.sat_parts.specs.HubSteps.{hub_after, hub_answers, hub_beat, hub_epoch, hub_sends, hub_shows, hub_takes, is_promise, may_give, HasTimes}
use Rattle.sat_parts.specs.Hubs.{HubAnswersAt, HubFitsAt, HubStands, StandsHub}
use Rattle.sat_parts.proofs.Instead.{answers-is, gears_for, is_gather, site_for}
use Rattle.sat_parts.proofs.HubReplies.{handed-gather, handed-hubs, answers-hub, beat-hub, fits-hub, link-hub, sent-hub, stands-hub}
use Rattle.sat_parts.proofs.HubGathers.{all-times, gather-answers, gather-fits, gather-stands}
use Rattle.sat_parts.proofs.HubShows.{stamp-shows, turn-shows}

-- ---- a gather, and any other input

or-gather : (P : HubInput → Type 0) → ((drained : List Drained) → P (hub.Gather drained)) → ((given : HubInput) → is_gather given ≡ false → P given) → (given : HubInput) → P given
or-gather P g o (hub.Gather drained) = g drained
or-gather P g o _ = o _ refl

takes-gather : (x : HubSeen) (drained : List Drained) → IsHub x → hub_takes x (hub.Gather drained) ≡ true → IsGather x drained
unfolding hub_takes
takes-gather x drained k e = gather-fits x drained k e

-- ---- fits

gather-always : (d : Deployed) (i : ℕ) (h : HubState) (drained : List Drained) → hub_fits d i h (hub_handed (hub.Gather drained)) ≡ true
unfolding fits
gather-always d i h drained = refl

fits-all : EachFits → (d : Deployed) (i : ℕ) (x : HubSeen) (h : HubState) → IsDeployment d → IsHub x → HasTimes x → StandsHub d i x h → (given : HubInput) → hub_takes x given ≡ true → hub_fits d i h (hub_handed given) ≡ true
fits-all each d i x h dep k times st =
    or-gather (λ given. hub_takes x given ≡ true → hub_fits d i h (hub_handed given) ≡ true) (λ drained e. gather-always d i h drained) (λ given other e. fits-hub each d i x h given dep k times st other e)

site-below : (d : Deployed) (i : ℕ) (x : HubSeen) (h : HubState) → IsHub x → StandsHub d i x h → i < d.sites
site-below d i x h k st = subst (λ (s : Shape). s.site < s.sites) st.shape k.shape.site

pub named-fits : EachFits → (d : Deployed) (name : NodeName) (x : HubSeen) (h : HubState) (act : HubActSeen) → IsDeployment d → IsHub x → HasTimes x → IsBy d act.by (is_hub_clients act.input) → hub_takes x act.input ≡ true → HubStands d name x h →
    HubFitsAt d (number_of name) h act
named-fits each d (named.Site i) x h act dep k times by e st = record { by = by; site = site-below d i x h k st; fits = fits-all each d i x h dep k times st act.input e }
named-fits each d (named.Serializer f z) x h act dep k times by e st = absurd st
named-fits each d (named.Gear j g) x h act dep k times by e st = absurd st

-- ---- answers

-- what a step gave
pub record Gave (d : Deployed) (x : HubSeen) (given : HubInput) (a : HubAnswer) : Type 0 where
  pub answer : a.answer ≡ hub_answers x given
  pub sent : a.sent ≡ hub_sends x given
  pub link : a.link ≡ label_link d (hub_epoch x given)
  pub beat : a.beat ≡ hub_beat x given
  pub show : a.show ≡ hub_shows x given

abbrev Answers : Deployed → ℕ → HubState → Option ℕ → HubInput → HubAnswer → Type 0
Answers d i h by given a = HubAnswersAt d i h (record { by = by; input = given }) a

gather-gives : (d : Deployed) (i : ℕ) (x : HubSeen) (h : HubState) (by : Option ℕ) (a : HubAnswer) (drained : List Drained) → IsHub x → StandsHub d i x h → IsGather x drained → Gave d x (hub.Gather drained) a → Answers d i h by (hub.Gather drained) a
unfolding hub_answers hub_sends hub_epoch hub_beat hub_shows sent_by epoch_by
gather-gives d i x h by a drained k st g gave = record {
  answer = gave.answer ∙ gather-answers d i x h drained k st g;
  sent = gave.sent;
  link = gave.link ∙ ap (λ (o : Option Label). label_link d (sent_epoch o h.views.emission)) (sym gave.sent);
  beat = gave.beat;
  show = gave.show ∙ ap (shown_payload h) (sym gave.answer);
}

quiet-none : (h : HubState) (r : Answer) → is_gears r ≡ false → None ≡ shown_payload h r
quiet-none h (ans.Shown l) e = absurd (cc)
quiet-none h _ e = refl

-- an input that is no turn and no stamp shows nothing
no-show : (x : HubSeen) (given : HubInput) → is_show (site_of_hub (hub_handed given)) ≡ false → hub_shows x given ≡ None
unfolding hub_shows
no-show x (hub.Turn front) e = absurd (cc)
no-show x hub.Stamp e = absurd (cc)
no-show x _ e = refl

module _ (steps : EachStep) (d : Deployed) (i : ℕ) (x : HubSeen) (h : HubState) (dep : IsDeployment d) (k : IsHub x) (times : HasTimes x) (st : StandsHub d i x h) where
  shows-nothing : (given : HubInput) → is_gather given ≡ false → hub_takes x given ≡ true → is_show (site_of_hub (hub_handed given)) ≡ false → hub_shows x given ≡ shown_payload h (hub_answers x given)
  shows-nothing given other takes quiet =
      no-show x given quiet ∙
      (go (is_show (site_of_hub (hub_handed given))) quiet (hub_answer d i h (hub_handed given))
      (subst (λ (r : Answer). IsOfHub (is_show (site_of_hub (hub_handed given))) r) (sym (alone-answers d i h (hub_handed given) (handed-gather given other))) (hub-answers d i (hub_alone d i h) (site_of_hub (hub_handed given)) (handed-hubs given other))) ∙
      ap (shown_payload h) (sym (answers-hub steps d i x h given dep k times st other takes)))
    where
      go : (b : Bool) → b ≡ false → (r : Answer) → IsOfHub b r → None ≡ shown_payload h r
      go b q r (inl e) = quiet-none h r e
      go b q r (inr w) = absurd (let clash : false ≡ true = sym q ∙ w.2 in cc)

  shows-all : (given : HubInput) → is_gather given ≡ false → hub_takes x given ≡ true → hub_shows x given ≡ shown_payload h (hub_answers x given)
  unfolding hub_shows hub_answers
  shows-all (hub.Turn front) other takes = turn-shows d i x h k times st front
  shows-all hub.Stamp other takes = stamp-shows d i x h k times st
  shows-all (hub.Gather drained) other takes = absurd (cc)
  shows-all (hub.Attach seen) other takes = shows-nothing (hub.Attach seen) refl takes refl
  shows-all hub.Emit other takes = shows-nothing hub.Emit refl takes refl
  shows-all hub.Pulse other takes = shows-nothing hub.Pulse refl takes refl
  shows-all (hub.Bulk from g n p) other takes = shows-nothing (hub.Bulk from g n p) refl takes refl
  shows-all (hub.Beat j) other takes = shows-nothing (hub.Beat j) refl takes refl
  shows-all (hub.BeatIn from n beat) other takes = shows-nothing (hub.BeatIn from n beat) refl takes refl
  shows-all hub.Close other takes = shows-nothing hub.Close refl takes refl
  shows-all hub.Fall other takes = shows-nothing hub.Fall refl takes refl
  shows-all hub.Advance other takes = shows-nothing hub.Advance refl takes refl

  other-gives : (by : Option ℕ) (a : HubAnswer) (given : HubInput) → is_gather given ≡ false → hub_takes x given ≡ true → Gave d x given a → Answers d i h by given a
  other-gives by a given other takes gave = record {
    answer = gave.answer ∙ answers-hub steps d i x h given dep k times st other takes;
    sent = gave.sent ∙ sent-hub steps d i x h given dep k times st other takes a.answer gave.answer;
    link = gave.link ∙ link-hub steps d i x h given dep k times st other takes a.sent gave.sent;
    beat = beat-hub steps d i x h given dep k times st other takes a.beat gave.beat;
    show = gave.show ∙ (shows-all given other takes ∙ ap (shown_payload h) (sym gave.answer));
  }

  gives-all : (by : Option ℕ) (a : HubAnswer) (given : HubInput) → hub_takes x given ≡ true → Gave d x given a → Answers d i h by given a
  gives-all by a =
      or-gather (λ given. hub_takes x given ≡ true → Gave d x given a → Answers d i h by given a)
      (λ drained takes gave. gather-gives d i x h by a drained k st (takes-gather x drained k takes) gave)
      (λ given other takes gave. other-gives by a given other takes gave)

  gather-becomes : (drained : List Drained) → hub_takes x (hub.Gather drained) ≡ true → StandsHub d i (hub_after x (hub.Gather drained)) (hub_then d i h (hub_handed (hub.Gather drained)) (hub_answers x (hub.Gather drained)))
  unfolding hub_answers hub_after
  gather-becomes drained takes = gather-stands d i x h drained (length (flat_map labels_of drained)) (least (map promise_of drained)) k st (takes-gather x drained k takes)

  stands-all : (given : HubInput) → hub_takes x given ≡ true → StandsHub d i (hub_after x given) (hub_then d i h (hub_handed given) (hub_answers x given))
  stands-all =
      or-gather (λ given. hub_takes x given ≡ true → StandsHub d i (hub_after x given) (hub_then d i h (hub_handed given) (hub_answers x given)))
      (λ drained takes. gather-becomes drained takes) (λ given other takes. subst (λ (r : Answer). StandsHub d i (hub_after x given) (hub_then d i h (hub_handed given) r)) (sym (answers-hub steps d i x h given dep k times st other takes)) (stands-hub steps d i x h given dep k times st other takes))

pub named-answers : EachStep → (d : Deployed) (name : NodeName) (x : HubSeen) (h : HubState) (act : HubActSeen) (a : HubAnswer) → IsDeployment d → IsHub x → HasTimes x → hub_takes x act.input ≡ true →
    Gave d x act.input a → HubStands d name x h → HubAnswersAt d (number_of name) h act a
named-answers steps d (named.Site i) x h act a dep k times e gave st = gives-all steps d i x h dep k times st act.by a act.input e gave
named-answers steps d (named.Serializer f z) x h act a dep k times e gave st = absurd st
named-answers steps d (named.Gear j g) x h act a dep k times e gave st = absurd st

-- ---- what it becomes

pub named-after : EachStep → (d : Deployed) (name : NodeName) (x y : HubSeen) (h : HubState) (given : HubInput) (r : Answer) → IsDeployment d → IsHub x → HasTimes x → hub_takes x given ≡ true →
    y ≡ hub_after x given → r ≡ hub_answers x given → HubStands d name x h → HubStands d name y (hub_then d (number_of name) h (hub_handed given) r)
named-after steps d (named.Site i) x y h given r dep k times takes after answer st =
    subst (λ (y : HubSeen). StandsHub d i y (hub_then d i h (hub_handed given) r)) (sym after)
    (subst (λ (r : Answer). StandsHub d i (hub_after x given) (hub_then d i h (hub_handed given) r)) (sym answer) (stands-all steps d i x h dep k times st given takes))
named-after steps d (named.Serializer f z) x y h given r dep k times takes after answer st = absurd st
named-after steps d (named.Gear j g) x y h given r dep k times takes after answer st = absurd st

emit-times : (x : HubSeen) (o : Option Label) → HasTimes x → HasTimes (emit_after x o)
emit-times x None times = times
emit-times x (Some l) times = times

pulse-times : (x : HubSeen) (o : Option Label) → HasTimes x → HasTimes (pulse_after x o)
pulse-times x None times = times
pulse-times x (Some l) times = times

close-times : (x : HubSeen) (o : Option CloseFault) → HasTimes x → HasTimes (close_after o x)
close-times x None times = times
close-times x (Some f) times = times

fall-times : (x : HubSeen) (o : Option FallFault) → HasTimes x → HasTimes (fall_after o x)
fall-times x None times = times
fall-times x (Some f) times = times

passed-times : (x : HubSeen) (o : Option AdvanceFault) → HasTimes x → HasTimes (passed_after o x)
passed-times x None times = times
passed-times x (Some f) times = times

after-times : (x : HubSeen) (given : HubInput) → hub_takes x given ≡ true → HasTimes x → HasTimes (hub_after x given)
unfolding hub_takes hub_after
after-times x (hub.Gather drained) e times = all-times drained (and_parts (may_give x drained) (list_all is_promise drained) e).1
after-times x (hub.Attach seen) e times = times
after-times x hub.Emit e times = emit-times x (ready_of x.sink) times
after-times x hub.Pulse e times = pulse-times x (next_pulse x.sink) times
after-times x (hub.Turn front) e times = times
after-times x (hub.Bulk from g n p) e times = times
after-times x (hub.Beat j) e times = times
after-times x (hub.BeatIn from n beat) e times = times
after-times x hub.Stamp e times = times
after-times x hub.Close e times = close-times x (close_fault x.views) times
after-times x hub.Fall e times = fall-times x (fall_fault x.views) times
after-times x hub.Advance e times = passed-times x (advance_fault x.views (has_come x.views x.proxy)) times

pub times-after : (x y : HubSeen) (given : HubInput) → hub_takes x given ≡ true → y ≡ hub_after x given → HasTimes x → HasTimes y
times-after x y given e after times = subst HasTimes (sym after) (after-times x given e times)

-- ---- its answers hold no list

gather-plain : (x : HubSeen) (drained : List Drained) → is_plain (hub_answers x (hub.Gather drained)) ≡ true
unfolding hub_answers
gather-plain x drained = refl

pub hub-plain : (x : HubSeen) (given : HubInput) → is_plain (hub_answers x given) ≡ true
hub-plain x (hub.Gather drained) = gather-plain x drained
hub-plain x (hub.Beat j) = ap is_plain (answers-is x (gears_for x) (hub.Beat j) refl) ∙ beat_plain (site_for x) j
hub-plain x (hub.Attach seen) = ap is_plain (answers-is x (gears_for x) (hub.Attach seen) refl) ∙ plain_answer (site_for x) (site_handed (hub.Attach seen)) refl
hub-plain x hub.Emit = ap is_plain (answers-is x (gears_for x) hub.Emit refl) ∙ plain_answer (site_for x) (site_handed hub.Emit) refl
hub-plain x hub.Pulse = ap is_plain (answers-is x (gears_for x) hub.Pulse refl) ∙ plain_answer (site_for x) (site_handed hub.Pulse) refl
hub-plain x (hub.Turn front) = ap is_plain (answers-is x (gears_for x) (hub.Turn front) refl) ∙ plain_answer (site_for x) (site_handed (hub.Turn front)) refl
hub-plain x (hub.Bulk from g n p) = ap is_plain (answers-is x (gears_for x) (hub.Bulk from g n p) refl) ∙ plain_answer (site_for x) (site_handed (hub.Bulk from g n p)) refl
hub-plain x (hub.BeatIn from n beat) = ap is_plain (answers-is x (gears_for x) (hub.BeatIn from n beat) refl) ∙ plain_answer (site_for x) (site_handed (hub.BeatIn from n beat)) refl
hub-plain x hub.Stamp = ap is_plain (answers-is x (gears_for x) hub.Stamp refl) ∙ plain_answer (site_for x) (site_handed hub.Stamp) refl
hub-plain x hub.Close = ap is_plain (answers-is x (gears_for x) hub.Close refl) ∙ plain_answer (site_for x) (site_handed hub.Close) refl
hub-plain x hub.Fall = ap is_plain (answers-is x (gears_for x) hub.Fall refl) ∙ plain_answer (site_for x) (site_handed hub.Fall) refl
hub-plain x hub.Advance = ap is_plain (answers-is x (gears_for x) hub.Advance refl) ∙ plain_answer (site_for x) (site_handed hub.Advance) refl
