-- What a hub answers, what it sends, and what it then keeps, by what it kept.
use Rattle.std.specs.Prelude.{ℕ, zero, suc, Bool, true, false, ◌||◌, List, length, map, Option, Some, None, Result, Ok}
use Rattle.std.specs.Prelude.{Err, if◌then◌else◌}
use Rattle.std.specs.List.{flat_map}
use Rattle.sat_label.specs.declared.label.Kind.TheVariants.{Close}
use Rattle.sat_label.specs.declared.label.Label.{Label}
use Rattle.sat_bulk.specs.declared.Drained.{Drained}
use Rattle.sat_bulk.specs.Payloads.{Payload}
use Rattle.sat_sites.specs.Interested.{is_for}
use Rattle.sat_sites.specs.declared.shape.Shape.{Shape}
use Rattle.sat_sink.specs.Pending.{labels_of, least, promise_of}
use Rattle.sat_sink.specs.Sink.{Sink, cut_of, may_pulse, pulse_of}
use Rattle.sat_act.specs.declared.answer.Answer.{Answer}
use Rattle.sat_act.specs.declared.answer.Answer.TheVariants as ans
use Rattle.sat_act.specs.declared.answer.Refusal.TheVariants as why
use Rattle.sat_epoch.specs.declared.views.CloseFault.{CloseFault}
use Rattle.sat_epoch.specs.declared.views.CloseFault.TheVariants as close
use Rattle.sat_epoch.specs.declared.views.FallFault.{FallFault}
use Rattle.sat_epoch.specs.declared.views.FallFault.TheVariants as fall
use Rattle.sat_epoch.specs.declared.views.AdvanceFault.{AdvanceFault}
use Rattle.sat_epoch.specs.Epochs.{after_advance}
use Rattle.sat_proxy.specs.declared.proxy.Turned.{Turned}
use Rattle.sat_proxy.specs.declared.proxy.Turned.TheVariants as turned
use Rattle.sat_proxy.specs.declared.proxy.TurnFault.{TurnFault}
use Rattle.sat_proxy.specs.declared.proxy.TurnFault.TheVariants as turn
use Rattle.sat_proxy.specs.declared.proxy.StampFault.{StampFault}
use Rattle.sat_proxy.specs.declared.proxy.StampFault.TheVariants as stamp
use Rattle.sat_proxy.specs.Steps.{advance_after}
use Rattle.sat_hub.specs.Seen.{HubSeen}
use Rattle.sat_hub.specs.Changes.{closed, fell, pulsed, sent}

-- ---- a gather, an emission of the sink's ready label, and a pulse

-- how many labels the gears gave, and the least of their promises
abbrev pub gather_answer : List Drained → Answer
gather_answer drained = ans.Gathered (length (flat_map labels_of drained)) (least (map promise_of drained))

abbrev pub emit_answer : Option Label → Answer
emit_answer None = ans.Refused why.Idle
emit_answer (Some l) = ans.Emitted l

abbrev pub emit_after : HubSeen → Option Label → HubSeen
emit_after x None = x
emit_after x (Some l) = sent x l

-- the pulse that the sink would send
abbrev pub next_pulse : Sink → Option Label
next_pulse s = if may_pulse s then Some (pulse_of s) else None

abbrev pub pulse_answer : Option Label → Answer
pulse_answer None = ans.Refused why.Idle
pulse_answer (Some l) = ans.Pulsed l

abbrev pub pulse_after : HubSeen → Option Label → HubSeen
pulse_after x None = x
pulse_after x (Some l) = pulsed x

-- ---- a close of the emission epoch

abbrev pub close_answer : Option CloseFault → HubSeen → Answer
close_answer (Some close.NoNextEpoch) x = ans.Refused why.NoNextEpoch
close_answer (Some close.Behind) x = ans.Refused why.Behind
close_answer None x = ans.Closed x.views.emission (cut_of x.sink)

abbrev pub close_after : Option CloseFault → HubSeen → HubSeen
close_after (Some fault) x = x
close_after None x = closed x

abbrev pub close_label : HubSeen → Label
close_label x = record { point = cut_of x.sink; kind = Close x.views.emission }

-- the close that the site would send
abbrev pub next_close : Option CloseFault → HubSeen → Option Label
next_close (Some fault) x = None
next_close None x = Some (close_label x)

-- ---- what is sent

-- whether one of the first n sites passes
unfoldable pub some_site : (ℕ → Bool) → ℕ → Bool
some_site test zero = false
some_site test (suc n) = test n || some_site test n

-- whether some site is a target of the label
abbrev pub has_target : Shape → Label → Bool
has_target shape l = some_site (is_for shape.interest l) shape.sites

-- what is sent of a label, by whether the plan of the emission epoch is stamp order
abbrev pub emit_sends : Bool → Shape → Option Label → Option Label
emit_sends true shape o = None
emit_sends false shape None = None
emit_sends false shape (Some l) = if has_target shape l then Some l else None

-- the epoch of what is sent, 0 where nothing is
abbrev pub sent_epoch : Option Label → ℕ → ℕ
sent_epoch None epoch = 0
sent_epoch (Some l) epoch = epoch

-- ---- a turn, and the next update in timestamp order: what the call gives says what the site answers, and which
-- payload its gears are to show

abbrev pub turn_told : Result Turned TurnFault → Answer
turn_told (Ok (turned.Show p)) = ans.Shown p.label
turn_told (Ok (turned.Took l)) = ans.Took l
turn_told (Err turn.StampOrder) = ans.Refused why.StampOrder
turn_told (Err turn.Empty) = ans.Refused why.Empty
turn_told (Err (turn.NoPayload l)) = ans.Refused (why.NoPayload l)

abbrev pub turn_given : Result Turned TurnFault → Option Payload
turn_given (Ok (turned.Show p)) = Some p
turn_given (Ok (turned.Took l)) = None
turn_given (Err fault) = None

abbrev pub stamp_told : Result Payload StampFault → Answer
stamp_told (Ok p) = ans.Shown p.label
stamp_told (Err stamp.TreeOrder) = ans.Refused why.TreeOrder
stamp_told (Err stamp.NotYet) = ans.Refused why.NotYet

abbrev pub stamp_given : Result Payload StampFault → Option Payload
stamp_given (Ok p) = Some p
stamp_given (Err fault) = None

-- ---- a fall, and an advance

abbrev pub fall_answer : Option FallFault → Answer
fall_answer (Some fall.StampOrder) = ans.Refused why.StampOrder
fall_answer (Some fall.NotClosed) = ans.Refused why.NotClosed
fall_answer None = ans.Fallen

abbrev pub fall_after : Option FallFault → HubSeen → HubSeen
fall_after (Some fault) x = x
fall_after None x = fell x

abbrev pub passed_after : Option AdvanceFault → HubSeen → HubSeen
passed_after (Some fault) x = x
passed_after None x = record x { views = after_advance x.views; proxy = advance_after x.views x.proxy }
