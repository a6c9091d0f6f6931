-- Answers of a site that hold no list.
use Rattle.std.proofs.Common.{◌≡◌, ℕ, Bool, true, false, refl, Option, Some, None}
use Rattle.sat_label.specs.declared.label.Label.{Label}
use Rattle.sat_label.specs.declared.label.Kind.{Kind}
use Rattle.sat_label.specs.declared.items.Items.{Items}
use Rattle.sat_label.specs.declared.point.Point.{Point}
use Rattle.sat_label.specs.Grouped.{list_of}
use Rattle.sat_label.specs.declared.label.Kind.TheVariants as kind
use Rattle.sat_label.specs.declared.carried.Carried.{Carried}
use Rattle.sat_beat.specs.declared.beats.BeatTake.{BeatTake}
use Rattle.sat_beat.specs.declared.beats.BeatTake.TheVariants as came
use Rattle.sat_epoch.specs.declared.views.AdvanceFault.{AdvanceFault}
use Rattle.sat_epoch.specs.declared.views.AdvanceFault.TheVariants as advance
use Rattle.sat_epoch.specs.declared.views.CloseFault.{CloseFault}
use Rattle.sat_epoch.specs.declared.views.CloseFault.TheVariants as close
use Rattle.sat_epoch.specs.declared.views.FallFault.{FallFault}
use Rattle.sat_epoch.specs.declared.views.FallFault.TheVariants as fall
use Rattle.sat_epoch.specs.Epochs.{close_fault, fall_fault, advance_fault}
use Rattle.sat_gear.specs.Gear.{GearSeen, is_spent, stamped}
use Rattle.sat_sink.specs.Sink.{ready_of}
use Rattle.sat_proxy.specs.declared.proxy.TurnFault.{TurnFault}
use Rattle.sat_proxy.specs.declared.proxy.TurnFault.TheVariants as turn
use Rattle.sat_proxy.specs.declared.proxy.StampFault.{StampFault}
use Rattle.sat_proxy.specs.declared.proxy.StampFault.TheVariants as stamp
use Rattle.sat_proxy.specs.Answers.{done_answer, front_answer, next_answer, view_answer, came_answer}
use Rattle.sat_site.specs.declared.input.SiteInput.{SiteInput}
use Rattle.sat_site.specs.declared.input.SiteInput.TheVariants as input
use Rattle.sat_site.specs.Seen.{SiteSeen}
use Rattle.sat_site.specs.SiteSteps.{site_answers, site_beat, tick_answer, write_answer, stamp_answer_of, move_answer, moved_answer, emit_answer, pulse_answer, close_answer, fall_answer, next_pulse}
use Rattle.sat_proxy.specs.Steps.{beat_take, turn_fault, stamp_fault, stamp_label, has_come}
use Rattle.sat_proxy.specs.Proxy.{window_of, outlook_here}
use Rattle.sat_proxy.specs.Asks.{may_come_at}
use Rattle.sat_bulk.specs.Windows.{has_number}
use Rattle.sat_site.specs.Changes.{gear_for}
use Rattle.sat_machines.specs.Plain.{is_plain, is_spare}
use Rattle.std.proofs.Common.{if◌then◌else◌, slice_get, ◌==◌, ◌<◌, not}
use Rattle.sat_act.specs.declared.answer.Answer.TheVariants as ans
use Rattle.sat_act.specs.declared.answer.Refusal.TheVariants as why
use Rattle.sat_site.specs.SiteSteps.{keeps_each, site_after}
use Rattle.sat_site.specs.Changes.{beat_for}
use Rattle.sat_site.specs.Inputs.{fits_in, fits_here, is_other_here, is_site_here}
use Rattle.std.proofs.lemmas.Bool.{and_parts, ltb-true}

tick-plain : (o : Option GearSeen) (t : ℕ) → is_plain (tick_answer o t) ≡ true
tick-plain None t = refl
tick-plain (Some g) t = refl

stamp-plain : (b : Bool) (l : Label) → is_plain (stamp_answer_of b l) ≡ true
stamp-plain true l = refl
stamp-plain false l = refl

write-plain : (b : Bool) (o : Option GearSeen) (seen : Point) (items : Items) → is_plain (write_answer b o seen items) ≡ true
write-plain false o seen items = refl
write-plain true None seen items = refl
write-plain true (Some gear) seen items = stamp-plain (is_spent gear seen) (stamped gear seen (kind.Update items))

moved-plain : (b : Bool) (l : Label) → is_plain (moved_answer b l) ≡ true
moved-plain true l = refl
moved-plain false l = refl

move-plain : (b : Bool) (o : Option GearSeen) (seen : Carried) (j : ℕ) → is_plain (move_answer b o seen j) ≡ true
move-plain true o seen j = refl
move-plain false None seen j = refl
move-plain false (Some gear) seen j = moved-plain (is_spent gear seen.point) (stamped gear seen.point (kind.Move j))

attach-plain : (b : Bool) → is_plain (if b then ans.Attached else ans.Refused why.NotYet) ≡ true
attach-plain true = refl
attach-plain false = refl

emit-plain : (o : Option Label) → is_plain (emit_answer o) ≡ true
emit-plain None = refl
emit-plain (Some l) = refl

pulse-plain : (o : Option Label) → is_plain (pulse_answer o) ≡ true
pulse-plain None = refl
pulse-plain (Some l) = refl

done-plain : (l : Label) (k : Kind) → is_plain (done_answer l k) ≡ true
done-plain l (kind.Update items) = refl
done-plain l (kind.Move j) = refl
done-plain l kind.Pulse = refl
done-plain l (kind.Close e) = refl

front-plain : (f : Option TurnFault) (o : Option Label) → is_plain (front_answer f o) ≡ true
front-plain (Some turn.StampOrder) o = refl
front-plain (Some turn.Empty) o = refl
front-plain (Some (turn.NoPayload l)) o = refl
front-plain None None = refl
front-plain None (Some l) = done-plain l l.kind

bulk-plain : (b : Bool) (l : Label) → is_plain (if b then ans.Again else ans.Brought l) ≡ true
bulk-plain true l = refl
bulk-plain false l = refl

came-plain : (t : BeatTake) → is_plain (came_answer t) ≡ true
came-plain came.New = refl
came-plain came.Again = refl
came-plain came.Old = refl

next-plain : (f : Option StampFault) (o : Option Label) → is_plain (next_answer f o) ≡ true
next-plain (Some stamp.TreeOrder) o = refl
next-plain (Some stamp.NotYet) o = refl
next-plain None None = refl
next-plain None (Some l) = refl

close-plain : (f : Option CloseFault) (x : SiteSeen) → is_plain (close_answer f x) ≡ true
close-plain (Some close.NoNextEpoch) x = refl
close-plain (Some close.Behind) x = refl
close-plain None x = refl

fall-plain : (f : Option FallFault) → is_plain (fall_answer f) ≡ true
fall-plain (Some fall.StampOrder) = refl
fall-plain (Some fall.NotClosed) = refl
fall-plain None = refl

view-plain : (f : Option AdvanceFault) (v : ℕ) → is_plain (view_answer f v) ≡ true
view-plain (Some advance.NotClosed) v = refl
view-plain (Some advance.NotYet) v = refl
view-plain None v = refl

pub plain_answer : (x : SiteSeen) (given : SiteInput) → is_spare given ≡ true → is_plain (site_answers x given) ≡ true
unfolding site_answers
plain_answer x (input.Tick g t) e = tick-plain (slice_get x.gears g) t
plain_answer x (input.Write seen items values) e = write-plain (keeps_each x (list_of items)) (slice_get x.gears (gear_for x items)) seen.point items
plain_answer x (input.Read seen n) e = absurd (cc)
plain_answer x (input.Move seen j) e = move-plain (j == x.shape.site) (slice_get x.gears 0) seen j
plain_answer x (input.Attach seen) e = attach-plain (may_come_at x.proxy.sites (outlook_here x.views x.proxy) seen x.proxy.site)
plain_answer x input.Gather e = refl
plain_answer x input.Emit e = emit-plain (ready_of x.sink)
plain_answer x input.Pulse e = pulse-plain (next_pulse x.sink)
plain_answer x (input.Turn front) e = front-plain (turn_fault x.views x.proxy front) front
plain_answer x (input.Bulk from gear number p) e = bulk-plain (has_number (window_of x.proxy from gear) number) p.label
plain_answer x (input.Beat j) e = absurd (cc)
plain_answer x (input.BeatIn from number beat) e = came-plain (beat_take x.proxy from number)
plain_answer x input.Stamp e = next-plain (stamp_fault x.views x.proxy) (stamp_label x.views x.proxy)
plain_answer x input.Close e = close-plain (close_fault x.views) x
plain_answer x input.Fall e = fall-plain (fall_fault x.views)
plain_answer x input.Advance e = view-plain (advance_fault x.views (has_come x.views x.proxy)) x.views.view

pub spare_beat : (x : SiteSeen) (given : SiteInput) → is_spare given ≡ true → None ≡ site_beat x given
unfolding site_beat
spare_beat x (input.Tick g t) e = refl
spare_beat x (input.Write seen items values) e = refl
spare_beat x (input.Read seen n) e = refl
spare_beat x (input.Move seen j) e = refl
spare_beat x (input.Attach seen) e = refl
spare_beat x input.Gather e = refl
spare_beat x input.Emit e = refl
spare_beat x input.Pulse e = refl
spare_beat x (input.Turn front) e = refl
spare_beat x (input.Bulk from gear number p) e = refl
spare_beat x (input.Beat j) e = absurd (cc)
spare_beat x (input.BeatIn from number beat) e = refl
spare_beat x input.Stamp e = refl
spare_beat x input.Close e = refl
spare_beat x input.Fall e = refl
spare_beat x input.Advance e = refl

pub read_stays : (x : SiteSeen) (seen : Carried) (n : ℕ) → site_after x (input.Read seen n) ≡ x
unfolding site_after
read_stays x seen n = refl

pub read_beat : (x : SiteSeen) (seen : Carried) (n : ℕ) → None ≡ site_beat x (input.Read seen n)
unfolding site_beat
read_beat x seen n = refl

pub beat_plain : (x : SiteSeen) (j : ℕ) → is_plain (site_answers x (input.Beat j)) ≡ true
unfolding site_answers
beat_plain x j = refl

pub beat_made : (x : SiteSeen) (j : ℕ) → Some (beat_for x j) ≡ site_beat x (input.Beat j)
unfolding site_beat
beat_made x j = refl

pub beat_fits : (x : SiteSeen) (j : ℕ) → fits_in x (input.Beat j) ≡ true → j < x.shape.sites
unfolding fits_here
beat_fits x j e =
    let w = and_parts (is_other_here x.shape j) true e in
    let v = and_parts (is_site_here x.shape j) (not (j == x.shape.site)) w.0 in
    ltb-true _ _ v.0
