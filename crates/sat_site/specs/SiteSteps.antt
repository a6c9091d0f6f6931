-- A site's step as a function: what it answers to an input, what it sends, and what it then keeps, by what it kept
-- alone. A gear, a payload or a version that is not there leaves all as it is.
use Rattle.std.specs.Prelude.{ℕ, ◌%◌, Bool, true, false, ◌==◌, max, List, [], ◌∷◌, length, map, set, slice_get, Option}
use Rattle.std.specs.Prelude.{Some, None}
use Rattle.std.specs.List.{flat_map, list_all}
use Rattle.sat_label.specs.declared.carried.Carried.{Carried}
use Rattle.sat_label.specs.declared.items.Items.{Items}
use Rattle.sat_label.specs.declared.label.Kind.{Kind}
use Rattle.sat_label.specs.declared.label.Kind.TheVariants.{Update, Move}
use Rattle.sat_label.specs.declared.label.Label.{Label}
use Rattle.sat_label.specs.declared.point.Point.{Point}
use Rattle.sat_label.specs.Grouped.{list_of}
use Rattle.sat_bulk.specs.Payloads.{Payload}
use Rattle.sat_beat.specs.declared.Beat.{Beat}
use Rattle.sat_sites.specs.Interested.{keeps}
use Rattle.sat_sites.specs.declared.shape.Shape.{Shape}
use Rattle.sat_label.specs.Versions.{Version}
use Rattle.sat_gear.specs.Gear.{GearSeen, drained_of, is_spent, after_move, after_show, stamped, after_tick, version_of}
use Rattle.sat_gear.specs.Gear.{after_write, payload_with}
use Rattle.sat_sink.specs.Pending.{least, promise_of}
use Rattle.sat_sink.specs.Sink.{ready_of}
use Rattle.sat_act.specs.declared.answer.Answer.{Answer}
use Rattle.sat_act.specs.declared.answer.Answer.TheVariants as ans
use Rattle.sat_act.specs.declared.answer.Refusal.TheVariants as why
use Rattle.sat_epoch.specs.declared.views.CloseFault.{CloseFault}
use Rattle.sat_epoch.specs.declared.views.FallFault.{FallFault}
use Rattle.sat_epoch.specs.declared.views.AdvanceFault.{AdvanceFault}
use Rattle.sat_epoch.specs.Epochs.{advance_fault, close_fault, fall_fault, is_stamp}
use Rattle.sat_proxy.specs.Steps.{after_beat, after_bulk, has_come, stamp_shows, turn_shows}
use Rattle.sat_proxy.specs.Answers.{advance_answer, attach_answer, beat_answer, bulk_answer, stamp_answer, turn_answer}
use Rattle.sat_hub.specs.Changes.{stamped as hub_stamped, turned as hub_turned}
use Rattle.sat_hub.specs.HubSteps as hub
use Rattle.sat_hub.specs.Inputs.{may_turn as hub_may_turn}
pub use Rattle.sat_hub.specs.HubSteps.{emit_answer, emit_sends, fall_answer, has_target, next_pulse, pulse_answer}
pub use Rattle.sat_hub.specs.HubSteps.{sent_epoch}
unfoldable pub use Rattle.sat_hub.specs.HubSteps.{some_site}
use Rattle.sat_site.specs.declared.input.SiteInput as code
use Rattle.sat_site.specs.declared.input.SiteInput.TheVariants as input
use Rattle.sat_site.specs.Seen.{SiteSeen, hub_of, with_hub}
use Rattle.sat_site.specs.Changes.{with_gear, gathered_all, fresh_of, gear_at, gear_for, beat_for, made_for, beaten}

-- whether the site keeps an item
abbrev pub keeps_item : SiteSeen → ℕ → Bool
keeps_item x n = keeps x.shape.interest n x.shape.site

-- ---- a tick of a gear

abbrev pub tick_answer : Option GearSeen → ℕ → Answer
tick_answer None t = ans.Ticked t
tick_answer (Some gear) t = ans.Ticked (max gear.promise t)

abbrev pub tick_after : SiteSeen → ℕ → ℕ → Option GearSeen → SiteSeen
tick_after x g t None = x
tick_after x g t (Some gear) = with_gear x g (after_tick gear t)

-- ---- an update that is shown: each part whose item the site keeps, by the gear of the item

-- gears of which the one of a number shows the part of a label for item k, if there is one
abbrev pub shown_by : List GearSeen → ℕ → Label → ℕ → Option (List ℕ) → Option GearSeen → List GearSeen
shown_by gears g l k None o = gears
shown_by gears g l k (Some value) None = gears
shown_by gears g l k (Some value) (Some gear) = set gears g (after_show gear k (record { label = l; value = value }))

-- gears that show it, where the site keeps item k
abbrev pub shown_at : Bool → Shape → List GearSeen → Label → ℕ → Option (List ℕ) → List GearSeen
shown_at false shape gears l k p = gears
shown_at true shape gears l k p = shown_by gears (k % shape.gears) l k p (slice_get gears (k % shape.gears))

-- and each of some parts, one after the other, with its item
unfoldable pub shown_each : Shape → List GearSeen → Label → List ℕ → List (Option (List ℕ)) → List GearSeen
shown_each shape gears l [] ps = gears
shown_each shape gears l (k ∷ ks) [] = gears
shown_each shape gears l (k ∷ ks) (p ∷ ps) =
    shown_each shape (shown_at (keeps shape.interest k shape.site) shape gears l k p) l ks ps

abbrev pub shown_part : SiteSeen → Label → ℕ → Option (List ℕ) → SiteSeen
shown_part x l k p = record x { gears = shown_at (keeps_item x k) x.shape x.gears l k p }

-- a version of item k, if there is one
abbrev pub shown_version : SiteSeen → ℕ → Option Version → SiteSeen
shown_version x k None = x
shown_version x k (Some v) = shown_part x v.label k (Some v.value)

-- the site after it showed an update: each gear that has items of the label has their values
abbrev pub shown_parts : SiteSeen → Label → Items → List (Option (List ℕ)) → SiteSeen
shown_parts x l items ps = record x { gears = shown_each x.shape x.gears l (list_of items) ps }

abbrev pub shown_of : SiteSeen → Payload → Kind → SiteSeen
shown_of x p (Update items) = shown_parts x p.label items p.values
shown_of x p _ = x

abbrev pub show_some : SiteSeen → Option Payload → SiteSeen
show_some x None = x
show_some x (Some p) = shown_of x p p.label.kind

-- ---- a client's write, stamped by the gear of the least item, where the site keeps all of them

-- whether the site keeps each of some items
abbrev pub keeps_each : SiteSeen → List ℕ → Bool
keeps_each x ns = list_all (keeps_item x) ns

abbrev pub stamp_answer_of : Bool → Label → Answer
stamp_answer_of true l = ans.Refused why.Spent
stamp_answer_of false l = ans.Wrote l

abbrev pub write_answer : Bool → Option GearSeen → Point → Items → Answer
write_answer false o seen items = ans.Refused why.NotHere
write_answer true None seen items = ans.Refused why.NotHere
write_answer true (Some gear) seen items = stamp_answer_of (is_spent gear seen) (stamped gear seen (Update items))

-- the gear has made an update of these values
abbrev pub stamped_by : SiteSeen → GearSeen → Point → Items → List (List ℕ) → SiteSeen
stamped_by x gear seen items values =
    with_gear x (gear_for x items) (after_write gear (payload_with (stamped gear seen (Update items)) values))

-- and it is shown
abbrev pub written : SiteSeen → GearSeen → Point → Items → List (List ℕ) → SiteSeen
written x gear seen items values =
    shown_parts (stamped_by x gear seen items values) (stamped gear seen (Update items)) items (map Some values)

abbrev pub stamp_after_of : SiteSeen → Bool → GearSeen → Point → Items → List (List ℕ) → SiteSeen
stamp_after_of x true gear seen items values = x
stamp_after_of x false gear seen items values = written x gear seen items values

abbrev pub write_after : SiteSeen → Bool → Option GearSeen → Point → Items → List (List ℕ) → SiteSeen
write_after x false o seen items values = x
write_after x true None seen items values = x
write_after x true (Some gear) seen items values = stamp_after_of x (is_spent gear seen) gear seen items values

-- ---- a client's read, by the gear of the item, where the site keeps it

abbrev pub version_answer : Option Version → Answer
version_answer None = ans.ReadNone
version_answer (Some v) = ans.ReadSome v.label v.value

abbrev pub read_answer : Bool → Option GearSeen → ℕ → Answer
read_answer false o n = ans.Refused why.NotHere
read_answer true None n = ans.Refused why.NotHere
read_answer true (Some gear) n = version_answer (version_of gear n)

-- ---- a client's move, stamped by gear 0, to another site

abbrev pub moved_answer : Bool → Label → Answer
moved_answer true l = ans.Refused why.Spent
moved_answer false l = ans.Moved l

abbrev pub move_answer : Bool → Option GearSeen → Carried → ℕ → Answer
move_answer true o seen j = ans.Refused why.SameSite
move_answer false None seen j = ans.Refused why.SameSite
move_answer false (Some gear) seen j = moved_answer (is_spent gear seen.point) (stamped gear seen.point (Move j))

abbrev pub moved_gear : Bool → GearSeen → Label → GearSeen
moved_gear true gear l = gear
moved_gear false gear l = after_move gear l

abbrev pub move_after : SiteSeen → Bool → Option GearSeen → Carried → ℕ → SiteSeen
move_after x true o seen j = x
move_after x false None seen j = x
move_after x false (Some gear) seen j =
    with_gear x 0 (moved_gear (is_spent gear seen.point) gear (stamped gear seen.point (Move j)))

-- ---- a gather, an emission of the sink's ready label, and a pulse

abbrev pub gather_answer : SiteSeen → Answer
gather_answer x = ans.Gathered (length (flat_map fresh_of x.gears)) (least (map promise_of (map drained_of x.gears)))

abbrev pub emit_after : SiteSeen → Option Label → SiteSeen
emit_after x o = with_hub x (hub.emit_after (hub_of x) o)

abbrev pub pulse_after : SiteSeen → Option Label → SiteSeen
pulse_after x o = with_hub x (hub.pulse_after (hub_of x) o)

-- ---- a close of the emission epoch

abbrev pub close_answer : Option CloseFault → SiteSeen → Answer
close_answer o x = hub.close_answer o (hub_of x)

abbrev pub close_after : Option CloseFault → SiteSeen → SiteSeen
close_after o x = with_hub x (hub.close_after o (hub_of x))

abbrev pub close_label : SiteSeen → Label
close_label x = hub.close_label (hub_of x)

-- the close that the site would send
abbrev pub next_close : Option CloseFault → SiteSeen → Option Label
next_close o x = hub.next_close o (hub_of x)

-- ---- a turn, and the next update in timestamp order

-- a turn takes the front of the link to the site
abbrev pub turned : SiteSeen → Option Label → SiteSeen
turned x front = with_hub x (hub_turned (hub_of x) front)

abbrev pub turned_after : SiteSeen → Option Label → SiteSeen
turned_after x front = show_some (turned x front) (turn_shows x.views x.proxy front)

abbrev pub stamped_after : SiteSeen → SiteSeen
stamped_after x = show_some (with_hub x (hub_stamped (hub_of x))) (stamp_shows x.views x.proxy)

-- ---- a fall, and an advance

abbrev pub fall_after : Option FallFault → SiteSeen → SiteSeen
fall_after o x = with_hub x (hub.fall_after o (hub_of x))

abbrev pub passed_after : Option AdvanceFault → SiteSeen → SiteSeen
passed_after o x = with_hub x (hub.passed_after o (hub_of x))

-- ---- all inputs

-- what the site answers
unfoldable pub site_answers : SiteSeen → code.SiteInput → Answer
site_answers x (input.Tick g t) = tick_answer (slice_get x.gears g) t
site_answers x (input.Write seen items values) =
    write_answer (keeps_each x (list_of items)) (slice_get x.gears (gear_for x items)) seen.point items
site_answers x (input.Read seen n) = read_answer (keeps_item x n) (slice_get x.gears (gear_at x n)) n
site_answers x (input.Move seen j) = move_answer (j == x.shape.site) (slice_get x.gears 0) seen j
site_answers x (input.Attach seen) = attach_answer x.views x.proxy seen
site_answers x input.Gather = gather_answer x
site_answers x input.Emit = emit_answer (ready_of x.sink)
site_answers x input.Pulse = pulse_answer (next_pulse x.sink)
site_answers x (input.Turn front) = turn_answer x.views x.proxy front
site_answers x (input.Bulk from gear number p) = bulk_answer x.proxy from gear number p.label
site_answers x (input.Beat j) = ans.Beat (length (made_for x j))
site_answers x (input.BeatIn from number beat) = beat_answer x.proxy from number
site_answers x input.Stamp = stamp_answer x.views x.proxy
site_answers x input.Close = close_answer (close_fault x.views) x
site_answers x input.Fall = fall_answer (fall_fault x.views)
site_answers x input.Advance = advance_answer x.views x.proxy

-- the label that the site sends
unfoldable pub site_sends : SiteSeen → code.SiteInput → Option Label
unfolding some_site
site_sends x input.Emit = emit_sends (is_stamp x.views x.views.emission) x.shape (ready_of x.sink)
site_sends x input.Pulse = emit_sends (is_stamp x.views x.views.emission) x.shape (next_pulse x.sink)
site_sends x input.Close = emit_sends (is_stamp x.views x.views.emission) x.shape (next_close (close_fault x.views) x)
site_sends x _ = None

-- the epoch of what the site sends, in a turn that of what it takes, and else 0
unfoldable pub site_epoch : SiteSeen → code.SiteInput → ℕ
unfolding site_sends
site_epoch x (input.Turn front) = x.views.view
site_epoch x given = sent_epoch (site_sends x given) x.views.emission

-- the beat that the site makes
unfoldable pub site_beat : SiteSeen → code.SiteInput → Option Beat
site_beat x (input.Beat j) = Some (beat_for x j)
site_beat x _ = None

-- what the site then keeps
unfoldable pub site_after : SiteSeen → code.SiteInput → SiteSeen
site_after x (input.Tick g t) = tick_after x g t (slice_get x.gears g)
site_after x (input.Write seen items values) =
    write_after x (keeps_each x (list_of items)) (slice_get x.gears (gear_for x items)) seen.point items values
site_after x (input.Read seen n) = x
site_after x (input.Move seen j) = move_after x (j == x.shape.site) (slice_get x.gears 0) seen j
site_after x (input.Attach seen) = x
site_after x input.Gather = gathered_all x
site_after x input.Emit = emit_after x (ready_of x.sink)
site_after x input.Pulse = pulse_after x (next_pulse x.sink)
site_after x (input.Turn front) = turned_after x front
site_after x (input.Bulk from gear number p) = record x { proxy = after_bulk x.proxy from gear number p }
site_after x (input.Beat j) = beaten x j
site_after x (input.BeatIn from number beat) = record x { proxy = after_beat x.proxy from number beat }
site_after x input.Stamp = stamped_after x
site_after x input.Close = close_after (close_fault x.views) x
site_after x input.Fall = fall_after (fall_fault x.views) x
site_after x input.Advance = passed_after (advance_fault x.views (has_come x.views x.proxy)) x

-- whether a turn with this front is one, and does something
abbrev pub may_turn : SiteSeen → Option Label → Bool
may_turn x o = hub_may_turn (hub_of x) o
