-- The rows of a drawing: one for each entry, the oldest first.
use Rattle.std.specs.Prelude.{ℕ, ◌+◌, ◌-◌, ◌==◌, Bool, true, false, List, [], ◌∷◌, ◌++◌, length, Option, Some, None}
use Rattle.std.specs.Prelude.{if◌then◌else◌}
use Rattle.std.specs.List.{flat_map}
use Rattle.sat_label.specs.Words.{has}
use Rattle.sat_act.specs.declared.act.Act.{Act}
use Rattle.sat_act.specs.declared.act.Act.TheVariants as act
use Rattle.sat_act.specs.declared.answer.Answer.{Answer}
use Rattle.sat_act.specs.declared.answer.Answer.TheVariants as ans
use Rattle.sat_act.specs.declared.entry.Entry.{Entry}
use Rattle.sat_act.specs.Deployed.{Deployed}
use Rattle.sat_act.specs.Parts.{home, seat}
use Rattle.sat_act.specs.Settling.{is_done}
use Rattle.sat_report.specs.Answers.{answer_line}
use Rattle.sat_draw.specs.declared.element.Ink.{Ink}
use Rattle.sat_draw.specs.declared.element.Ink.TheVariants as ink
use Rattle.sat_draw.specs.declared.element.Spot.{Spot}
use Rattle.sat_draw.specs.declared.element.Element.{Element}
use Rattle.sat_draw.specs.declared.element.Element.TheVariants.{Line, Way, Glow, Dot, Word}
use Rattle.sat_draw.specs.declared.trail.Trail.{Trail}
use Rattle.sat_draw.specs.declared.trail.Coming.{Coming}
use Rattle.sat_draw.specs.declared.trail.TheConstants.{SEATED}
use Rattle.sat_draw.specs.declared.geometry.TheConstants.{ABOVE}
use Rattle.sat_draw.specs.Columns.{site_column, act_column, columns, column_x, answers_x, rows_top, row_y}
use Rattle.sat_draw.specs.Trails.{trail_eq, left_by, born, comes_from}
use Rattle.sat_script.specs.Spelled.{act_text}
use Rattle.sat_script.specs.Table.{act_words}

abbrev pub spot_at : ℕ → ℕ → Spot
spot_at x y = record { x = x; y = y }

-- where the mark of an entry stands, by the seats of the clients: in the column of its act and in its row
abbrev pub mark_spot : Deployed → (ℕ → Option ℕ) → ℕ → Entry → Spot
mark_spot d seat row entry = spot_at (column_x (act_column d seat entry.act)) (row_y d row)

-- the same after a history
abbrev pub spot_of : Deployed → List Entry → Entry → Spot
spot_of d before entry = mark_spot d (seat d before) (length before) entry

-- what is then known of a trail, where an entry that is marked here left these trails
abbrev pub after_leaving : List Trail → Spot → Option Spot → Trail → Option Spot
after_leaving trails here before t = if has trail_eq trails t then Some here else before

-- where the mark of the last entry stands that left a trail
unfoldable pub last_spot : Deployed → List Entry → Trail → Option Spot
unfolding left_by seat
last_spot d [] t = None
last_spot d (entry ∷ before) t =
    after_leaving (left_by entry.act entry.answer) (spot_of d before entry) (last_spot d before t) t

-- a place above the first row, in the column of a client's first seat
abbrev pub top_of : Deployed → Option ℕ → Option Spot
top_of d None = None
top_of d (Some i) = Some (spot_at (column_x (site_column d i)) (rows_top d - ABOVE))

-- where a trail begins that no entry left: a client is at its first seat
unfoldable pub first_spot : Deployed → Trail → Option Spot
unfolding home
first_spot d t = if t.stop == SEATED then top_of d (home d t.ts) else None

abbrev pub or_else : Option Spot → Option Spot → Option Spot
or_else None other = other
or_else (Some s) other = Some s

-- where a trail was left last, or begins
abbrev pub begin : Deployed → (Trail → Option Spot) → Trail → Option Spot
begin d found t = or_else (found t) (first_spot d t)

-- a line to here from where a trail was left, if it was
abbrev pub arrow : Coming → Spot → Option Spot → List Element
arrow c here None = []
arrow c here (Some there) = Way c.ink c.trail there here ∷ []

abbrev pub arrow_for : (Trail → Option Spot) → Spot → Coming → List Element
arrow_for found here c = arrow c here (found c.trail)

-- one for each trail, by where they were left
abbrev pub arrows : (Trail → Option Spot) → Spot → List Coming → List Element
arrows found here cs = flat_map (arrow_for found here) cs

-- whether an act concerns all sites
abbrev pub is_across : Act → Bool
is_across act.Clock = true
is_across act.Settle = true
is_across _ = false

-- such an act has a line over all columns
abbrev pub rule : Deployed → Act → Spot → List Element
rule d a here = if is_across a then Line ink.Rule here (spot_at (column_x (columns d - 1)) here.y) ∷ [] else []

-- a cross over a mark
abbrev pub cross : Ink → Spot → List Element
cross ink at =
    Line ink (spot_at (at.x - 7) (at.y - 7)) (spot_at (at.x + 7) (at.y + 7))
    ∷ Line ink (spot_at (at.x - 7) (at.y + 7)) (spot_at (at.x + 7) (at.y - 7)) ∷ []

abbrev pub is_killed : Answer → Bool
is_killed ans.Killed = true
is_killed _ = false

-- a serializer that was killed has one
abbrev pub death : Answer → Spot → List Element
death answer here = if is_killed answer then cross ink.Dead here else []

-- a label that is made stands out on all its ways
abbrev pub glow : Option Trail → List Element
glow None = []
glow (Some t) = Glow t ∷ []

-- the inks of an act that was done, and of one that changed nothing
abbrev pub mark_ink : Answer → Ink
mark_ink answer = if is_done answer then ink.Done else ink.Refused

abbrev pub answer_ink : Answer → Ink
answer_ink answer = if is_done answer then ink.Said else ink.Denied

-- the title of a mark: the act's line, and that of its answer with the entry's number
abbrev pub mark_title : Deployed → ℕ → Entry → List ℕ
mark_title d row entry =
    (act_text d entry.act ++ 10 ∷ []) ++ answer_line d (row + 1) entry.act entry.answer

-- the mark of an entry; and in its row the act's line at the left, and the answer's at the right
abbrev pub mark_of : Deployed → ℕ → Spot → Entry → Element
mark_of d row here entry = Dot (mark_ink entry.answer) here (mark_title d row entry)

abbrev pub answer_of : Deployed → ℕ → Spot → Entry → Element
answer_of d row here entry =
    Word (answer_ink entry.answer) (spot_at (answers_x d) (here.y + 4)) (answer_line d (row + 1) entry.act entry.answer)

abbrev pub act_of : Deployed → Spot → Entry → Element
act_of d here entry = Word ink.Act (spot_at 8 (here.y + 4)) (act_text d entry.act)

-- what a row has besides its mark and what leads to it
abbrev pub signs : Deployed → Spot → Entry → List Element
signs d here entry = rule d entry.act here ++ (death entry.answer here ++ glow (born entry.answer))

-- and with what leads to a mark that stands here, by where trails were left
abbrev pub ways_at : Deployed → (Trail → Option Spot) → Spot → Entry → List Element
ways_at d found here entry = signs d here entry ++ arrows (begin d found) here (comes_from entry.act entry.answer)

-- the mark, and its words
abbrev pub marks_at : Deployed → ℕ → Spot → Entry → List Element
marks_at d row here entry = mark_of d row here entry ∷ answer_of d row here entry ∷ act_of d here entry ∷ []

-- the same after a history
abbrev pub ways_of : Deployed → List Entry → Entry → List Element
ways_of d before entry = ways_at d (last_spot d before) (spot_of d before entry) entry

-- the marks of one entry, behind a history
abbrev pub marks_of : Deployed → List Entry → Entry → List Element
marks_of d before entry = marks_at d (length before) (spot_of d before entry) entry

-- those of a history, of which the newest entry stands first and is drawn last
unfoldable pub ways : Deployed → List Entry → List Element
unfolding last_spot first_spot comes_from born seat
ways d [] = []
ways d (entry ∷ before) = ways d before ++ ways_of d before entry

-- the marks of all entries, in their order
unfoldable pub marks : Deployed → List Entry → List Element
unfolding answer_line act_words seat
marks d [] = []
marks d (entry ∷ before) = marks d before ++ marks_of d before entry
