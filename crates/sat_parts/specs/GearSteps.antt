-- A gear's step as a machine of a node: which inputs it takes, and what it answers and then keeps, by what it kept.
use Rattle.std.specs.Prelude.{ℕ, ◌%◌, ◌==◌, Bool, true, false, ◌&&◌, max, List, [], ◌∷◌, length, map, Option, Some}
use Rattle.std.specs.Prelude.{None}
use Rattle.std.specs.List.{list_all}
use Rattle.sat_label.specs.declared.carried.Carried.{Carried}
use Rattle.sat_label.specs.declared.items.Items.{Items}
use Rattle.sat_label.specs.declared.label.Kind.{Kind}
use Rattle.sat_label.specs.declared.label.Kind.TheVariants.{Update, Move}
use Rattle.sat_label.specs.declared.label.Label.{Label}
use Rattle.sat_label.specs.declared.point.Point.{Point}
use Rattle.sat_label.specs.Grouped.{least_item, list_of}
use Rattle.sat_label.specs.Order.{label_eq}
use Rattle.sat_label.specs.Versions.{Version}
use Rattle.sat_bulk.specs.declared.Drained.{Drained}
use Rattle.sat_bulk.specs.Payloads.{Payload, version_for}
use Rattle.sat_sites.specs.Interested.{are_below, keeps}
use Rattle.sat_sites.specs.declared.shape.Shape.{Shape}
use Rattle.sat_gear.specs.Gear.{GearSeen, after_drain, after_show, after_tick, after_write, drained_of, is_spent}
use Rattle.sat_gear.specs.Gear.{payload_with, stamped, version_of}
use Rattle.sat_act.specs.declared.answer.Answer.{Answer}
use Rattle.sat_act.specs.declared.answer.Answer.TheVariants as ans
use Rattle.sat_act.specs.declared.answer.Refusal.TheVariants as why
use Rattle.sat_model.specs.Fits.{is_time}
use Rattle.sat_hub.specs.Seen.{has_parts_here}
use Rattle.sat_hub_laws.specs.Gears.{has_all}
use Rattle.sat_hub.specs.Inputs.{is_carried_here, is_group_here, is_item_here, is_site_here}
use Rattle.sat_site.specs.SiteSteps.{moved_answer, moved_gear, stamp_answer_of, version_answer}
use Rattle.sat_parts.specs.declared.gear_input.GearInput.{GearInput}
use Rattle.sat_parts.specs.declared.gear_input.GearInput.TheVariants as gear
use Rattle.sat_parts.specs.declared.gear_input.ShownBy.{ShownBy}
use Rattle.sat_parts.specs.declared.gear_input.ShownBy.TheVariants as by

-- ---- what it gives to a gather

-- whether two lists hold the same labels
abbrev pub labels_eq : List Label → List Label → Bool
labels_eq [] [] = true
labels_eq [] (m ∷ ms) = false
labels_eq (l ∷ ls) [] = false
labels_eq (l ∷ ls) (m ∷ ms) = label_eq l m && labels_eq ls ms

-- whether two lists hold the same numbers
abbrev pub counts_eq : List ℕ → List ℕ → Bool
counts_eq [] [] = true
counts_eq [] (m ∷ ms) = false
counts_eq (n ∷ ns) [] = false
counts_eq (n ∷ ns) (m ∷ ms) = (n == m) && counts_eq ns ms

-- whether two gears give the same
abbrev pub drained_eq : Drained → Drained → Bool
drained_eq a b = (a.promise == b.promise) && (labels_eq a.labels b.labels && counts_eq a.counts b.counts)

-- ---- which inputs it takes

-- whether an item is one of this gear
abbrev pub is_of : GearSeen → ℕ → Bool
is_of x n = n % x.shape.gears == x.gear

-- whether its site keeps an item
abbrev pub keeps_here : GearSeen → ℕ → Bool
keeps_here x n = keeps x.shape.interest n x.shape.site

-- a write of another gear shows the items of one update, with a value for each
abbrev pub is_written : ShownBy → Shape → Items → List (Option (List ℕ)) → Bool
is_written by.Write shape items values = is_group_here shape items && has_all values
is_written _ shape items values = true

-- whether it may show a payload: an update of known items, with as many parts as items and a value for each item that
-- the site keeps, for each item at all where another gear wrote it
abbrev pub may_show : Shape → ShownBy → Payload → Kind → Bool
may_show shape act p (Update items) =
    (are_below (length shape.interest.replicas) (list_of items) && has_parts_here shape (list_of items) p.values)
    && is_written act shape items p.values
may_show shape act p _ = false

-- whether a gear takes an input: one that fits the deployment, and is of its own items, or of gear 0 where it is a
-- move; and what it gives to a gather is its own
unfoldable pub gear_takes : GearSeen → GearInput → Bool
gear_takes x (gear.Tick ts) = is_time ts
gear_takes x (gear.Write seen items values) =
    (is_carried_here x.shape seen && (is_group_here x.shape items && (length values == length (list_of items))))
    && is_of x (least_item (list_of items))
gear_takes x (gear.Read seen n) = (is_carried_here x.shape seen && is_item_here x.shape n) && is_of x n
gear_takes x (gear.Move seen j) = (is_carried_here x.shape seen && is_site_here x.shape j) && (0 == x.gear)
gear_takes x (gear.Drain given labels stable) = drained_eq given (drained_of x)
gear_takes x (gear.Show act p) = may_show x.shape act p p.label.kind

-- whether a step can fail for want of memory: it can't in a tick, nor in a part of another node's act
abbrev pub gear_may_fail : GearInput → Bool
gear_may_fail (gear.Tick ts) = false
gear_may_fail (gear.Drain given labels stable) = false
gear_may_fail (gear.Show act p) = false
gear_may_fail _ = true

-- whether it is a read, whose answer may hold a list
abbrev pub is_read : GearInput → Bool
is_read (gear.Read seen n) = true
is_read _ = false

-- ---- its step

-- the gear after it showed a version, if there is one, of item k: where that is its own, and the site keeps it
abbrev pub shown_by : GearSeen → ℕ → Option Version → GearSeen
shown_by x k None = x
shown_by x k (Some v) = after_show x k v

-- the same, if it does
abbrev pub shown_if : Bool → GearSeen → ℕ → Option Version → GearSeen
shown_if true x k o = shown_by x k o
shown_if false x k o = x

-- whether it shows a part of item k
abbrev pub shows_item : GearSeen → ℕ → Bool
shows_item x k = is_of x k && keeps_here x k

-- and each of some parts, one after the other, with its item
unfoldable pub shown_all : GearSeen → Label → List ℕ → List (Option (List ℕ)) → GearSeen
shown_all x l [] ps = x
shown_all x l (k ∷ ks) [] = x
shown_all x l (k ∷ ks) (p ∷ ps) = shown_all (shown_if (shows_item x k) x k (version_for l p)) l ks ps

-- the gear after it showed an update
abbrev pub shown_of : GearSeen → Payload → Kind → GearSeen
shown_of x p (Update items) = shown_all x p.label (list_of items) p.values
shown_of x p _ = x

-- ---- a write, where its site keeps all of the items

-- what it answers, by whether its site keeps all
abbrev pub write_answer : Bool → GearSeen → Point → Items → Answer
write_answer false x seen items = ans.Refused why.NotHere
write_answer true x seen items = stamp_answer_of (is_spent x seen) (stamped x seen (Update items))

-- the gear has made an update of these values
abbrev pub made_by : GearSeen → Point → Items → List (List ℕ) → GearSeen
made_by x seen items values = after_write x (payload_with (stamped x seen (Update items)) values)

-- and shows those of its own items
abbrev pub stamp_after : Bool → GearSeen → Point → Items → List (List ℕ) → GearSeen
stamp_after true x seen items values = x
stamp_after false x seen items values =
    shown_all (made_by x seen items values) (stamped x seen (Update items)) (list_of items) (map Some values)

-- what it then is, by whether its site keeps all
abbrev pub write_after : Bool → GearSeen → Point → Items → List (List ℕ) → GearSeen
write_after false x seen items values = x
write_after true x seen items values = stamp_after (is_spent x seen) x seen items values

-- ---- a read, and a move

-- what it answers, by whether its site keeps the item
abbrev pub read_answer : Bool → GearSeen → ℕ → Answer
read_answer false x n = ans.Refused why.NotHere
read_answer true x n = version_answer (version_of x n)

-- what it answers, by whether the goal is its own site
abbrev pub move_answer : Bool → GearSeen → Carried → ℕ → Answer
move_answer true x seen j = ans.Refused why.SameSite
move_answer false x seen j = moved_answer (is_spent x seen.point) (stamped x seen.point (Move j))

-- what it then is
abbrev pub move_after : Bool → GearSeen → Carried → ℕ → GearSeen
move_after true x seen j = x
move_after false x seen j = moved_gear (is_spent x seen.point) x (stamped x seen.point (Move j))

-- ---- all inputs

-- what an act answered in which it showed a label's payload
abbrev pub shown_answer : ShownBy → Label → Answer
shown_answer by.Write l = ans.Wrote l
shown_answer _ l = ans.Shown l

-- what it answers
unfoldable pub gear_answers : GearSeen → GearInput → Answer
gear_answers x (gear.Tick ts) = ans.Ticked (max x.promise ts)
gear_answers x (gear.Write seen items values) =
    write_answer (list_all (keeps_here x) (list_of items)) x seen.point items
gear_answers x (gear.Read seen n) = read_answer (keeps_here x n) x n
gear_answers x (gear.Move seen j) = move_answer (j == x.shape.site) x seen j
gear_answers x (gear.Drain given labels stable) = ans.Gathered labels stable
gear_answers x (gear.Show act p) = shown_answer act p.label

-- what it then keeps
unfoldable pub gear_after : GearSeen → GearInput → GearSeen
unfolding shown_all
gear_after x (gear.Tick ts) = after_tick x ts
gear_after x (gear.Write seen items values) =
    write_after (list_all (keeps_here x) (list_of items)) x seen.point items values
gear_after x (gear.Read seen n) = x
gear_after x (gear.Move seen j) = move_after (j == x.shape.site) x seen j
gear_after x (gear.Drain given labels stable) = after_drain x
gear_after x (gear.Show act p) = shown_of x p p.label.kind
