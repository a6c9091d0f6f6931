-- The answer of a site to what it is handed, by its state alone, and its step.
use Rattle.std.specs.Prelude.{ℕ, ◌+◌, Bool, false, ◌&&◌, ◌||◌, not, ◌==◌, nat_le, max, List, length, Option, Some, None}
use Rattle.std.specs.Prelude.{is_some, if◌then◌else◌}
use Rattle.std.specs.List.{list_any}
use Rattle.sat_label.specs.declared.point.Point.{Point}
use Rattle.sat_label.specs.declared.limits.TheConstants.{PULSE_GEAR, TS_END}
use Rattle.sat_label.specs.declared.items.Items.{Items}
use Rattle.sat_label.specs.declared.label.Kind.TheVariants as kind
use Rattle.sat_label.specs.declared.label.Label.{Label}
use Rattle.sat_label.specs.Grouped.{least_item, list_of}
use Rattle.sat_label.specs.Order.{point_at, mark, zero_point, point_le}
use Rattle.sat_label.specs.Words.{has}
use Rattle.sat_act.specs.declared.answer.Answer.{Answer}
use Rattle.sat_act.specs.declared.answer.Answer.TheVariants as ans
use Rattle.sat_act.specs.declared.answer.Refusal.TheVariants as why
use Rattle.sat_act.specs.Deployed.{Deployed}
use Rattle.sat_act.specs.Parts.{BeatNote, replicates, keeps_all, best_passes, all_others, reaches, closed_below}
use Rattle.sat_act.specs.Parts.{passed_ts, passed_label}
use Rattle.sat_act.specs.Answers.{refused_if, gear_of, turned, is_drained}
use Rattle.sat_label.specs.declared.carried.Carried.{Carried}
use Rattle.sat_model.specs.State.{SiteState, Version}
use Rattle.sat_model.specs.Input.{SiteInput}
use Rattle.sat_model.specs.Input as given
use Rattle.sat_model.specs.Look.{rows, least_row, stable_of, ready_of, cut_of, mode_of, waiting_of, best_of, numbers_of}
use Rattle.sat_model.specs.Next.{site_next}
use Rattle.sat_label.specs.Least.{least_label}

-- ---- clients' acts

-- the gear that stamps an update of some items: that of the least
abbrev pub gear_for : Deployed → Items → ℕ
gear_for d items = gear_of d (least_item (list_of items))

-- a write of some items at site i, by the promise of the gear that stamps it and the client's timestamp
abbrev pub write_by : Deployed → ℕ → Items → ℕ → ℕ → Answer
write_by d i items promise seen =
    refused_if (not (keeps_all d (list_of items) i)) why.NotHere (
    let ts = max promise seen in
    refused_if (nat_le TS_END ts) why.Spent (
    ans.Wrote (record { point = point_at (ts + 1) i (gear_for d items); kind = kind.Update items })))

-- a read of item x at site i, whose version is given
abbrev pub read_by : Deployed → ℕ → ℕ → Option Version → Answer
read_by d i x version =
    refused_if (not (replicates d x i)) why.NotHere (
    elim version [ None ↦ ans.ReadNone | Some p ↦ ans.ReadSome p.label p.value ])

-- a move from site i to site j, by gear 0's promise and the client's timestamp
abbrev pub move_by : ℕ → ℕ → ℕ → ℕ → Answer
move_by i j promise seen =
    refused_if (j == i) why.SameSite (
    let ts = max promise seen in
    refused_if (nat_le TS_END ts) why.Spent (
    ans.Moved (record { point = point_at (ts + 1) i 0; kind = kind.Move j })))

-- ---- what the proxy reads: mode, view, last points, best beats, waiting labels

-- what a site reads of the others: whether it goes by timestamp order, its view, the point up to which it knows each
-- site, the best beat of each, and the updates that wait
pub record Outlook : Type 0 where
  pub stamp : Bool
  pub view : ℕ
  pub last : ℕ → Point
  pub best : ℕ → Option (ℕ × BeatNote)
  pub waiting : List Label

-- what it reads off its state
abbrev pub outlook_of : Deployed → SiteState → Outlook
outlook_of d s =
    record { stamp = mode_of d s; view = s.views.view; last = s.proxy.last; best = best_of d s; waiting = waiting_of s }

-- a client that is moving to j finds its point known there
abbrev pub comes_moving : Outlook → Carried → ℕ → Bool
comes_moving o c j = elim c.moving [ None ↦ false | Some k ↦ (k == j) && point_le c.point (o.last c.point.site) ]

-- each other site is known up to the mark of the client's timestamp
abbrev pub comes_taken : Deployed → Outlook → Carried → ℕ → Bool
comes_taken d o c j = all_others d j (λ i. point_le (mark c.point.ts i) (o.last i))

-- in stamp mode each other site's best beat reaches the client's timestamp, and nothing waits up to it
abbrev pub comes_beats : Deployed → Outlook → Carried → ℕ → Bool
comes_beats d o c j =
    (o.stamp && all_others d j (λ i. best_passes (o.best i) (reaches o.view c.point.ts i)))
    && not (list_any (λ l. nat_le l.point.ts c.point.ts) o.waiting)

-- whether a client may come to j, in one of the four cases of attach: the first is that it carries nothing
abbrev pub may_come : Deployed → Outlook → Carried → ℕ → Bool
may_come d o c j = point_le c.point zero_point || (comes_moving o c j || (comes_taken d o c j || comes_beats d o c j))

-- whether a waiting label's epoch is past the view
abbrev pub past_by : Outlook → Label → Bool
past_by o l = best_passes (o.best l.point.site) (closed_below o.view l)

-- the least waiting label that is not past the view
abbrev pub candidate_by : Outlook → Option Label
candidate_by o = least_label (λ l. not (past_by o l)) o.waiting

-- the best beat of each other site has passed the timestamp of a label
abbrev pub sites_passed : Deployed → Outlook → ℕ → Label → Bool
sites_passed d o j l = all_others d j (λ i. best_passes (o.best i) (passed_ts o.view l.point.ts i))

-- the best beat of the label's own site has passed the label
abbrev pub own_passed : Outlook → Label → Bool
own_passed o l = best_passes (o.best l.point.site) (passed_label o.view l)

-- the update that j shows next in timestamp order
abbrev pub stamp_next : Deployed → Outlook → ℕ → Option Label
stamp_next d o j =
    elim (candidate_by o) [ None ↦ None | Some l ↦ if sites_passed d o j l && own_passed o l then Some l else None ]

-- whether j has all of its view, where `heard` tells which closes it took from its tree
abbrev pub may_pass : Deployed → Outlook → (ℕ → ℕ → Bool) → ℕ → Bool
may_pass d o heard j =
    if o.stamp
    then all_others d j (λ i. best_passes (o.best i) (is_drained o.view o.waiting i))
    else all_others d j (λ i. heard i o.view)

-- ---- the answer

-- what a site answers to what it is handed, one clause for each input
unfoldable pub site_answer : Deployed → ℕ → SiteState → SiteInput → Answer
site_answer d i s (given.Tick g ts) = ans.Ticked (max (s.gears g).promise ts)
site_answer d i s (given.Clock p) = ans.Clocked p
site_answer d i s (given.Write seen items values) =
    write_by d i items (s.gears (gear_for d items)).promise seen.point.ts
site_answer d i s (given.Read seen x) = read_by d i x (s.store x)
site_answer d i s (given.Move seen j) = move_by i j (s.gears 0).promise seen.point.ts
site_answer d i s (given.Attach seen) = refused_if (not (may_come d (outlook_of d s) seen i)) why.NotYet ans.Attached
site_answer d i s given.Gather =
    ans.Gathered (length (rows (λ g. (s.gears g).fresh) d.gears)) (least_row (λ g. (s.gears g).promise) d.gears)
site_answer d i s given.Emit = elim (ready_of d s) [ None ↦ ans.Refused why.Idle | Some l ↦ ans.Emitted l ]
site_answer d i s given.Pulse =
    refused_if (is_some (ready_of d s) || nat_le (stable_of d s) s.sink.pulse) why.Idle
    (ans.Pulsed (record { point = point_at (stable_of d s) i PULSE_GEAR; kind = kind.Pulse }))
site_answer d i s (given.Turn front) =
    refused_if (mode_of d s) why.StampOrder
    (elim front [ None ↦ ans.Refused why.Empty | Some l ↦ turned (waiting_of s) l ])
site_answer d i s (given.Bulk from g n p) = if has ◌==◌ (s.proxy.taken from g) n then ans.Again else ans.Brought p.label
site_answer d i s (given.Beat j) = ans.Beat (length (s.made_beats j))
site_answer d i s (given.BeatIn from n note) =
    elim (best_of d s from) [
      | None ↦ if has ◌==◌ (numbers_of s from) n then ans.Again else ans.Taken
      | Some b ↦ if nat_le n b.0 then ans.Old else (if has ◌==◌ (numbers_of s from) n then ans.Again else ans.Taken)
    ]
site_answer d i s given.Stamp =
    refused_if (not (mode_of d s)) why.TreeOrder
    (elim (stamp_next d (outlook_of d s) i) [ None ↦ ans.Refused why.NotYet | Some l ↦ ans.Shown l ])
site_answer d i s given.Close =
    refused_if (s.views.emission == length d.plans) why.NoNextEpoch (
    refused_if (s.views.emission == s.views.view + 1) why.Behind (
    ans.Closed s.views.emission (cut_of d i s)))
site_answer d i s given.Fall =
    refused_if (mode_of d s) why.StampOrder (refused_if (s.views.emission == s.views.view) why.NotClosed ans.Fallen)
site_answer d i s given.Advance =
    refused_if (s.views.emission == s.views.view) why.NotClosed (
    refused_if (not (may_pass d (outlook_of d s) s.views.heard i)) why.NotYet (ans.View (s.views.view + 1)))

-- a site's step: its answer, and its state after it. This is what `Site::step` does
unfoldable pub site_step : Deployed → ℕ → SiteState → SiteInput → Answer × SiteState
unfolding site_answer site_next
site_step d i s input = (site_answer d i s input, site_next d i s input (site_answer d i s input))
