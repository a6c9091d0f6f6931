-- A hub's step as a machine of a node: which inputs it takes, and what it answers, sends, makes and shows, and then
-- keeps, by what it kept.
use Rattle.std.specs.Prelude.{ℕ, ◌+◌, ◌^◌, ◌≡◌, ◌≤◌, ◌==◌, Bool, true, ◌&&◌, nat_le, nat_lt, List, [], ◌∷◌, length}
use Rattle.std.specs.Prelude.{get_or, Option, Some, None}
use Rattle.std.specs.List.{list_all}
use Rattle.sat_label.specs.declared.label.Label.{Label}
use Rattle.sat_bulk.specs.declared.Drained.{Drained}
use Rattle.sat_bulk.specs.Payloads.{Payload}
use Rattle.sat_beat.specs.declared.Beat.{Beat}
use Rattle.sat_sink.specs.Sink.{Sink, are_new, ready_of}
use Rattle.sat_act.specs.declared.answer.Answer.{Answer}
use Rattle.sat_act.specs.declared.answer.Answer.TheVariants as ans
use Rattle.sat_model.specs.Fits.{is_time}
use Rattle.sat_epoch.specs.Epochs.{advance_fault, close_fault, fall_fault, is_stamp}
use Rattle.sat_proxy.specs.Steps.{after_beat, after_bulk, has_come, stamp_shows, turn_shows}
use Rattle.sat_proxy.specs.Answers.{advance_answer, attach_answer, beat_answer, bulk_answer, stamp_answer, turn_answer}
use Rattle.sat_hub.specs.Seen.{HubSeen}
use Rattle.sat_hub.specs.Inputs.{is_beat_here, is_bulk_here, is_carried_here, is_counted, is_front_here, is_given_here}
use Rattle.sat_hub.specs.Inputs.{is_other_here}
use Rattle.sat_hub.specs.Changes.{beat_for, beaten, gathered, made_for, stamped, turned}
use Rattle.sat_hub.specs.HubSteps.{close_after, close_answer, emit_after, emit_answer, emit_sends, fall_after}
use Rattle.sat_hub.specs.HubSteps.{fall_answer, gather_answer, next_close, next_pulse, passed_after, pulse_after}
use Rattle.sat_hub.specs.HubSteps.{pulse_answer, sent_epoch}
use Rattle.sat_parts.specs.declared.hub_input.HubInput.{HubInput}
use Rattle.sat_parts.specs.declared.hub_step.Given.{Given}
use Rattle.sat_parts.specs.declared.hub_input.HubInput.TheVariants as hub

-- ---- which inputs it takes

-- whether gear g of a site may give this, by what was gathered of it before: its promise doesn't fall, and its labels
-- are new and rise
abbrev pub goes_on : Sink → ℕ → Drained → Bool
goes_on s g given =
    nat_le (get_or s.promises g 0) given.promise
    && are_new s.site g given.promise given.labels (get_or s.promises g 0)

-- whether the gears from that of a number on may give these
abbrev pub go_on : Sink → ℕ → List Drained → Bool
go_on s g [] = true
go_on s g (given ∷ rest) = goes_on s g given && go_on s (g + 1) rest

-- a promise is a timestamp
abbrev pub is_promise : Drained → Bool
is_promise given = is_time given.promise

-- whether the gears of the site may give these, one for each gear: labels that the site made, and one count for each
-- site; and they go on from what the sink gathered
abbrev pub may_give : HubSeen → List Drained → Bool
may_give x drained =
    ((length drained == length x.sink.promises) && go_on x.sink 0 drained)
    && list_all (is_given_here x.shape) drained

-- the same, with promises that are timestamps
abbrev pub may_gather : HubSeen → List Drained → Bool
may_gather x drained = may_give x drained && list_all is_promise drained

-- whether a hub takes an input: one that fits; a payload and a beat have numbers of 63 bits, and a beat those of
-- the hub's gears and epochs
unfoldable pub hub_takes : HubSeen → HubInput → Bool
hub_takes x (hub.Attach seen) = is_carried_here x.shape seen
hub_takes x (hub.Gather drained) = may_gather x drained
hub_takes x hub.Emit = true
hub_takes x hub.Pulse = true
hub_takes x (hub.Turn None) = true
hub_takes x (hub.Turn (Some l)) = is_front_here x.shape x.views.view l
hub_takes x (hub.Bulk from g n p) = is_bulk_here x.shape x.proxy from g n p && nat_lt n (2 ^ 63)
hub_takes x (hub.Beat j) = is_other_here x.shape j
hub_takes x (hub.BeatIn from n beat) =
    (is_other_here x.shape from && is_beat_here x.shape (length x.views.stamp) beat)
    && (nat_lt n (2 ^ 63) && is_counted x beat)
hub_takes x hub.Stamp = true
hub_takes x hub.Close = true
hub_takes x hub.Fall = true
hub_takes x hub.Advance = true

-- ---- its step

-- what it answers
unfoldable pub hub_answers : HubSeen → HubInput → Answer
hub_answers x (hub.Attach seen) = attach_answer x.views x.proxy seen
hub_answers x (hub.Gather drained) = gather_answer drained
hub_answers x hub.Emit = emit_answer (ready_of x.sink)
hub_answers x hub.Pulse = pulse_answer (next_pulse x.sink)
hub_answers x (hub.Turn front) = turn_answer x.views x.proxy front
hub_answers x (hub.Bulk from g n p) = bulk_answer x.proxy from g n p.label
hub_answers x (hub.Beat j) = ans.Beat (length (made_for x j))
hub_answers x (hub.BeatIn from n beat) = beat_answer x.proxy from n
hub_answers x hub.Stamp = stamp_answer x.views x.proxy
hub_answers x hub.Close = close_answer (close_fault x.views) x
hub_answers x hub.Fall = fall_answer (fall_fault x.views)
hub_answers x hub.Advance = advance_answer x.views x.proxy

-- the label that it sends
unfoldable pub hub_sends : HubSeen → HubInput → Option Label
hub_sends x hub.Emit = emit_sends (is_stamp x.views x.views.emission) x.shape (ready_of x.sink)
hub_sends x hub.Pulse = emit_sends (is_stamp x.views x.views.emission) x.shape (next_pulse x.sink)
hub_sends x hub.Close = emit_sends (is_stamp x.views x.views.emission) x.shape (next_close (close_fault x.views) x)
hub_sends x _ = None

-- the epoch of what it sends, in a turn that of what it takes, and else 0
unfoldable pub hub_epoch : HubSeen → HubInput → ℕ
unfolding hub_sends
hub_epoch x (hub.Turn front) = x.views.view
hub_epoch x given = sent_epoch (hub_sends x given) x.views.emission

-- the beat that it makes
unfoldable pub hub_beat : HubSeen → HubInput → Option Beat
hub_beat x (hub.Beat j) = Some (beat_for x j)
hub_beat x _ = None

-- the payload that it gives to the gears of its items
unfoldable pub hub_shows : HubSeen → HubInput → Option Payload
hub_shows x (hub.Turn front) = turn_shows x.views x.proxy front
hub_shows x hub.Stamp = stamp_shows x.views x.proxy
hub_shows x _ = None

-- what it then keeps
unfoldable pub hub_after : HubSeen → HubInput → HubSeen
hub_after x (hub.Attach seen) = x
hub_after x (hub.Gather drained) = gathered x drained
hub_after x hub.Emit = emit_after x (ready_of x.sink)
hub_after x hub.Pulse = pulse_after x (next_pulse x.sink)
hub_after x (hub.Turn front) = turned x front
hub_after x (hub.Bulk from g n p) = record x { proxy = after_bulk x.proxy from g n p }
hub_after x (hub.Beat j) = beaten x j
hub_after x (hub.BeatIn from n beat) = record x { proxy = after_beat x.proxy from n beat }
hub_after x hub.Stamp = stamped x
hub_after x hub.Close = close_after (close_fault x.views) x
hub_after x hub.Fall = fall_after (fall_fault x.views) x
hub_after x hub.Advance = passed_after (advance_fault x.views (has_come x.views x.proxy)) x

-- what holds of the node's hub at all times beside what holds of each hub: what it gathered are timestamps
abbrev pub HasTimes : HubSeen → Type 0
HasTimes x = (g : ℕ) → get_or x.sink.promises g 0 ≤ 2 ^ 62

-- what it makes and gives, each with a copy
pub record IsGiven (x : HubSeen) (input : HubInput) (made : Given) : Type 0 where
  pub beat : made.beat ≡ hub_beat x input
  pub beat_again : made.beat_again ≡ hub_beat x input
  pub show : made.show ≡ hub_shows x input
  pub show_again : made.show_again ≡ hub_shows x input
