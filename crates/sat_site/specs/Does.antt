-- What a site answers to some of its inputs, and what it then keeps, by what it kept.
use Rattle.std.specs.Prelude.{ℕ, ◌≡◌, true, false, max, List, length, map, None, Some, Result, Ok, Err}
use Rattle.std.specs.List.{flat_map}
use Rattle.sat_gear.specs.declared.stamped.GearFault.{GearFault}
use Rattle.sat_gear.specs.declared.stamped.GearFault.TheVariants as fault
use Rattle.sat_label.specs.declared.carried.Carried.{Carried}
use Rattle.sat_label.specs.declared.items.Items.{Items}
use Rattle.sat_label.specs.declared.label.Kind.TheVariants.{Update}
use Rattle.sat_label.specs.declared.label.Label.{Label}
use Rattle.sat_bulk.specs.Payloads.{Payload}
use Rattle.sat_label.specs.declared.point.Point.{Point}
use Rattle.sat_label.specs.Grouped.{list_of}
use Rattle.sat_label.specs.Versions.{Version}
use Rattle.sat_gear.specs.Gear.{GearSeen, IsGear, drained_of, is_spent, payload_with, stamped, after_tick, version_of}
use Rattle.sat_sink.specs.Pending.{least, promise_of}
use Rattle.sat_sink.specs.Sink.{ready_of}
use Rattle.sat_act.specs.declared.answer.Answer.{Answer}
use Rattle.sat_act.specs.declared.answer.Answer.TheVariants as ans
use Rattle.sat_act.specs.declared.answer.Refusal.TheVariants as why
use Rattle.sat_site.specs.declared.input.SiteInput as code
use Rattle.sat_site.specs.declared.input.SiteInput.TheVariants as input
use Rattle.sat_site.specs.Seen.{SiteSeen}
use Rattle.sat_site.specs.SiteSteps.{keeps_item, keeps_each, stamped_by, written}
use Rattle.sat_site.specs.Changes.{with_gear, gathered_all, sent, fresh_of, gear_at, gear_for, HasGear}

-- what the gear of the least item makes of a write of items, by what it answers
pub data Stamps (x : SiteSeen) (seen : Point) (items : Items) (values : List (List ℕ)) : Result Payload GearFault
    → SiteSeen → Type 0 where
  stamps_none : (gear : GearSeen) → HasGear x (gear_for x items) gear → is_spent gear seen ≡ true
      → Stamps x seen items values (Err fault.Spent) x
  stamps_short : Stamps x seen items values (Err fault.Memory) x
  stamps : (gear : GearSeen) → HasGear x (gear_for x items) gear → IsGear gear → is_spent gear seen ≡ false
      → Stamps x seen items values (Ok (payload_with (stamped gear seen (Update items)) values))
      (stamped_by x gear seen items values)

-- a client's write: the gear of the least item stamps it, and it is shown at each item
pub data Writes (x : SiteSeen) (seen : Carried) (items : Items) (values : List (List ℕ)) : Answer → SiteSeen
    → Type 0 where
  write_not_here : keeps_each x (list_of items) ≡ false → Writes x seen items values (ans.Refused why.NotHere) x
  spends : (gear : GearSeen) → keeps_each x (list_of items) ≡ true → HasGear x (gear_for x items) gear
      → is_spent gear seen.point ≡ true → Writes x seen items values (ans.Refused why.Spent) x
  writes : (gear : GearSeen) → keeps_each x (list_of items) ≡ true → HasGear x (gear_for x items) gear → IsGear gear
      → is_spent gear seen.point ≡ false →
      Writes x seen items values (ans.Wrote (stamped gear seen.point (Update items)))
      (written x gear seen.point items values)

-- a client's read
pub data Reads (x : SiteSeen) (n : ℕ) : Answer → Type 0 where
  read_not_here : keeps_item x n ≡ false → Reads x n (ans.Refused why.NotHere)
  reads_none : (gear : GearSeen) → keeps_item x n ≡ true → HasGear x (gear_at x n) gear → version_of gear n ≡ None
      → Reads x n ans.ReadNone
  reads : (gear : GearSeen) (v : Version) → keeps_item x n ≡ true → HasGear x (gear_at x n) gear
      → version_of gear n ≡ Some v → Reads x n (ans.ReadSome v.label v.value)

-- a tick, a write, a read, a gather and an emission
pub data Does (x : SiteSeen) : code.SiteInput → Answer → SiteSeen → Type 0 where
  ticks : {g t : ℕ} (gear : GearSeen) → HasGear x g gear
      → Does x (input.Tick g t) (ans.Ticked (max gear.promise t)) (with_gear x g (after_tick gear t))
  writing : {seen : Carried} {items : Items} {values : List (List ℕ)} {answer : Answer} {y : SiteSeen}
      → Writes x seen items values answer y → Does x (input.Write seen items values) answer y
  reading : {seen : Carried} {n : ℕ} {answer : Answer} → Reads x n answer → Does x (input.Read seen n) answer x
  gathers : Does x input.Gather (ans.Gathered (length (flat_map fresh_of x.gears))
      (least (map promise_of (map drained_of x.gears)))) (gathered_all x)
  idles : ready_of x.sink ≡ None → Does x input.Emit (ans.Refused why.Idle) x
  emits : {l : Label} → ready_of x.sink ≡ Some l → Does x input.Emit (ans.Emitted l) (sent x l)
