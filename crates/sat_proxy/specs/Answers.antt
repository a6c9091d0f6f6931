-- What a site answers by what it has of the others.
use Rattle.std.specs.Prelude.{ℕ, ◌+◌, Option, Some, None, if◌then◌else◌}
use Rattle.sat_label.specs.declared.carried.Carried.{Carried}
use Rattle.sat_label.specs.declared.label.Label.{Label}
use Rattle.sat_label.specs.declared.label.Kind.{Kind}
use Rattle.sat_label.specs.declared.label.Kind.TheVariants.{Update}
use Rattle.sat_bulk.specs.Windows.{has_number}
use Rattle.sat_beat.specs.declared.beats.BeatTake.{BeatTake}
use Rattle.sat_beat.specs.declared.beats.BeatTake.TheVariants as came
use Rattle.sat_epoch.specs.Epochs.{Epochs, advance_fault}
use Rattle.sat_epoch.specs.declared.views.AdvanceFault.{AdvanceFault}
use Rattle.sat_epoch.specs.declared.views.AdvanceFault.TheVariants as advance
use Rattle.sat_act.specs.declared.answer.Answer.{Answer}
use Rattle.sat_act.specs.declared.answer.Answer.TheVariants as ans
use Rattle.sat_act.specs.declared.answer.Refusal.TheVariants as why
use Rattle.sat_proxy.specs.declared.proxy.TurnFault.{TurnFault}
use Rattle.sat_proxy.specs.declared.proxy.TurnFault.TheVariants as turn
use Rattle.sat_proxy.specs.declared.proxy.StampFault.{StampFault}
use Rattle.sat_proxy.specs.declared.proxy.StampFault.TheVariants as stamp
use Rattle.sat_proxy.specs.Proxy.{ProxySeen, window_of, outlook_here}
use Rattle.sat_proxy.specs.Asks.{may_come_at}
use Rattle.sat_proxy.specs.Steps.{beat_take, turn_fault, stamp_fault, stamp_label, has_come}

-- a client that wants to attach
abbrev pub attach_answer : Epochs → ProxySeen → Carried → Answer
attach_answer views p c =
    if may_come_at p.sites (outlook_here views p) c p.site then ans.Attached else ans.Refused why.NotYet

-- a payload of a label
abbrev pub bulk_answer : ProxySeen → ℕ → ℕ → ℕ → Label → Answer
bulk_answer p from gear number l = if has_number (window_of p from gear) number then ans.Again else ans.Brought l

-- a beat, by what became of it
abbrev pub came_answer : BeatTake → Answer
came_answer came.New = ans.Taken
came_answer came.Again = ans.Again
came_answer came.Old = ans.Old

-- the answer to a beat that came: whether it is new, and whether the best one moved
abbrev pub beat_answer : ProxySeen → ℕ → ℕ → Answer
beat_answer p from number = came_answer (beat_take p from number)

-- a label that is shown or taken
abbrev pub done_answer : Label → Kind → Answer
done_answer l (Update items) = ans.Shown l
done_answer l _ = ans.Took l

-- the front of the link, by why it stays there
abbrev pub front_answer : Option TurnFault → Option Label → Answer
front_answer (Some turn.StampOrder) front = ans.Refused why.StampOrder
front_answer (Some turn.Empty) front = ans.Refused why.Empty
front_answer (Some (turn.NoPayload l)) front = ans.Refused (why.NoPayload l)
front_answer None None = ans.Refused why.Empty
front_answer None (Some l) = done_answer l l.kind

-- the answer to a turn by tree at the front of the link
abbrev pub turn_answer : Epochs → ProxySeen → Option Label → Answer
turn_answer views p front = front_answer (turn_fault views p front) front

-- the next update in timestamp order, by why none is shown
abbrev pub next_answer : Option StampFault → Option Label → Answer
next_answer (Some stamp.TreeOrder) next = ans.Refused why.TreeOrder
next_answer (Some stamp.NotYet) next = ans.Refused why.NotYet
next_answer None None = ans.Refused why.NotYet
next_answer None (Some l) = ans.Shown l

-- the answer to a turn by timestamps
abbrev pub stamp_answer : Epochs → ProxySeen → Answer
stamp_answer views p = next_answer (stamp_fault views p) (stamp_label views p)

-- the next view, by why the site stays
abbrev pub view_answer : Option AdvanceFault → ℕ → Answer
view_answer (Some advance.NotClosed) view = ans.Refused why.NotClosed
view_answer (Some advance.NotYet) view = ans.Refused why.NotYet
view_answer None view = ans.View (view + 1)

-- the answer to an advance of the view
abbrev pub advance_answer : Epochs → ProxySeen → Answer
advance_answer views p = view_answer (advance_fault views (has_come views p)) views.view
