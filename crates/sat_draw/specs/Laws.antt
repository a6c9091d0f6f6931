-- What holds of every drawing: each act is drawn once, an act that was done as done, and each line begins where what
-- goes or stays there was left.
use Rattle.std.specs.Prelude.{◌≡◌, ◌⊎◌, ℕ, Bool, true, false, List, [], ◌∷◌, ◌++◌, ◌||◌, length, filter, Option, Some}
use Rattle.std.specs.Prelude.{None, if◌then◌else◌}
use Rattle.std.specs.List.{list_any}
use Rattle.sat_label.specs.Members.{In}
use Rattle.sat_label.specs.Words.{has}
use Rattle.sat_act.specs.declared.entry.Entry.{Entry}
use Rattle.sat_act.specs.Deployed.{Deployed}
use Rattle.sat_act.specs.Histories.{listed}
use Rattle.sat_act.specs.Settling.{is_done}
use Rattle.sat_draw.specs.declared.element.Ink.{Ink}
use Rattle.sat_draw.specs.declared.element.Ink.TheVariants as ink
use Rattle.sat_draw.specs.declared.element.Spot.{Spot}
use Rattle.sat_draw.specs.declared.element.Element.{Element}
use Rattle.sat_draw.specs.declared.element.Element.TheVariants.{Line, Way, Lost, Rest, Dot}
use Rattle.sat_draw.specs.declared.trail.Trail.{Trail}
use Rattle.sat_draw.specs.Trails.{trail_eq, left_by, comes_from}
use Rattle.sat_draw.specs.Columns.{row_y}
use Rattle.sat_draw.specs.Rows.{spot_at, spot_of, first_spot, mark_title}
use Rattle.sat_draw.specs.Lost.{is_link, is_settled, takes, beside}
use Rattle.sat_draw.specs.Drawing.{elements}

-- the ink of an act that was done, and of one that changed nothing
abbrev pub is_done_ink : Ink → Bool
is_done_ink ink.Done = true
is_done_ink _ = false

abbrev pub is_refused_ink : Ink → Bool
is_refused_ink ink.Refused = true
is_refused_ink _ = false

-- a mark of an act that was done, and of one that changed nothing
abbrev pub is_done_mark : Element → Bool
is_done_mark (Dot ink at text) = is_done_ink ink
is_done_mark _ = false

abbrev pub is_refused_mark : Element → Bool
is_refused_mark (Dot ink at text) = is_refused_ink ink
is_refused_mark _ = false

-- the mark that an entry is to have: in the column of its act and in its own row, with its act and its answer as a
-- title
abbrev pub title_of : Deployed → List Entry → Entry → List ℕ
title_of d before entry = mark_title d (length before) entry

abbrev pub done_mark : Deployed → List Entry → Entry → Option Element
done_mark d before entry =
    if is_done entry.answer then Some (Dot ink.Done (spot_of d before entry) (title_of d before entry)) else None

abbrev pub refused_mark : Deployed → List Entry → Entry → Option Element
refused_mark d before entry =
    if is_done entry.answer then None else Some (Dot ink.Refused (spot_of d before entry) (title_of d before entry))

-- the marks of acts that were done are just those of the entries that were done, each once and in their order; and so
-- are the marks of acts that changed nothing
pub record EachIsDrawnOnce (d : Deployed) (h : List Entry) : Type 0 where
  pub done : filter is_done_mark (elements d h) ≡ listed (done_mark d) h
  pub refused : filter is_refused_mark (elements d h) ≡ listed (refused_mark d) h

-- ---- where arrows begin

-- the last entry of a history that left a trail: its mark stands there
pub record IsLeft (d : Deployed) (h : List Entry) (t : Trail) (there : Spot) : Type 0 where
  pub later : List Entry
  pub entry : Entry
  pub before : List Entry
  pub parts : h ≡ later ++ entry ∷ before
  pub left : has trail_eq (left_by entry.act entry.answer) t ≡ true
  pub last : list_any (λ e. has trail_eq (left_by e.act e.answer) t) later ≡ false
  pub there_is : there ≡ spot_of d before entry

-- no entry of a history left a trail, and it begins there
pub record IsFirst (d : Deployed) (h : List Entry) (t : Trail) (there : Spot) : Type 0 where
  pub never : list_any (λ e. has trail_eq (left_by e.act e.answer) t) h ≡ false
  pub there_is : first_spot d t ≡ Some there

-- where a trail was left last, or where it begins
abbrev pub Begins : Deployed → List Entry → Trail → Spot → Type 0
Begins d h t there = IsLeft d h t there ⊎ IsFirst d h t there

-- the inks of what moves or waits: of labels, payloads, beats, clients and sites
abbrev pub is_way_ink : Ink → Bool
is_way_ink ink.Label = true
is_way_ink ink.Move = true
is_way_ink ink.Pulse = true
is_way_ink ink.Close = true
is_way_ink ink.Sink = true
is_way_ink ink.Payload = true
is_way_ink ink.Store = true
is_way_ink ink.Beat = true
is_way_ink ink.Seat = true
is_way_ink ink.Away = true
is_way_ink ink.Switch = true
is_way_ink ink.View = true
is_way_ink _ = false

-- a line of a trail that ends at the mark of an entry which comes from it, and begins where it was left last before
-- that, or where it begins
pub record IsWay (d : Deployed) (h : List Entry) (ink : Ink) (trail : Trail) (from to : Spot) : Type 0 where
  pub later : List Entry
  pub entry : Entry
  pub before : List Entry
  pub parts : h ≡ later ++ entry ∷ before
  pub comes_from_it : In (comes_from entry.act entry.answer) (record { ink = ink; trail = trail })
  pub begins : Begins d before trail from
  pub ends : to ≡ spot_of d before entry

-- a line of a trail that nothing ended: from where it was left last, or begins, straight down to below the last row
pub record IsRest (d : Deployed) (h : List Entry) (trail : Trail) (from to : Spot) : Type 0 where
  pub begins : Begins d h trail from
  pub down : to ≡ spot_at from.x (row_y d (length h))

-- a line that looks like a way and has no trail
abbrev pub is_loose_way : Element → Bool
is_loose_way (Line ink from to) = is_way_ink ink
is_loose_way _ = false

-- ---- what was lost

-- an entry took a label, or left it anew; a settle may have taken any
abbrev pub ends_way : Trail → Entry → Bool
ends_way t entry =
    is_settled entry.answer
    || (takes (comes_from entry.act entry.answer) t || has trail_eq (left_by entry.act entry.answer) t)

-- an entry sent a label over a link, and no later one took it
pub record IsLost (d : Deployed) (h : List Entry) (t : Trail) (here : Spot) : Type 0 where
  pub later : List Entry
  pub entry : Entry
  pub before : List Entry
  pub parts : h ≡ later ++ entry ∷ before
  pub sent : is_link t ≡ true
  pub left : has trail_eq (left_by entry.act entry.answer) t ≡ true
  pub never : list_any (ends_way t) later ≡ false
  pub here_is : here ≡ spot_of d before entry

-- each such label has a cross beside the mark from which it went, and nothing else has one
pub record LostAreCrossed (d : Deployed) (h : List Entry) : Type 0 where
  pub each : (t : Trail) (here : Spot) → IsLost d h t here → In (elements d h) (Lost t here (beside here))
  pub only : (t : Trail) (here to : Spot) → In (elements d h) (Lost t here to) → IsLost d h t here

-- each line of a label, a payload, a beat, a client or a site is such a way, or goes down to the end, nothing else
-- looks like one, and what was lost is crossed
pub record WaysAreTold (d : Deployed) (h : List Entry) : Type 0 where
  pub each : (ink : Ink) (trail : Trail) (from to : Spot) → In (elements d h) (Way ink trail from to)
      → IsWay d h ink trail from to
  pub rests : (ink : Ink) (trail : Trail) (from to : Spot) → In (elements d h) (Rest ink trail from to)
      → IsRest d h trail from to
  pub no_others : filter is_loose_way (elements d h) ≡ []
  pub lost : LostAreCrossed d h
