-- What entries tell, as those of a history that is judged, and how they name labels.
use Rattle.std.specs.Prelude.{◌≡◌, ℕ, List, [], ◌∷◌, map, reverse, Option, Some, None, true}
use Rattle.sat_label.specs.declared.label.Kind.TheVariants as kind
use Rattle.sat_label.specs.declared.label.Label.{Label}
use Rattle.sat_act.specs.declared.act.Act.{Act}
use Rattle.sat_act.specs.declared.act.Act.TheVariants as act
use Rattle.sat_act.specs.declared.answer.Answer.{Answer}
use Rattle.sat_act.specs.declared.answer.Answer.TheVariants as ans
use Rattle.sat_act.specs.declared.entry.Entry.{Entry}
use Rattle.sat_act.specs.Deployed.{Deployed}
use Rattle.sat_act.specs.Done.{made_in, Written, write_in}
use Rattle.sat_act.specs.Goals.{Made}
use Rattle.sat_audit.specs.Told.{is_read, is_show}
use Rattle.sat_audit.specs.declared.heard.Heard.{Heard}
use Rattle.sat_audit.specs.declared.heard.History.{History}
use Rattle.sat_audit.specs.declared.told.Told.{Told}
use Rattle.sat_audit.specs.declared.told.Told.TheVariants as told

-- ---- what is told

-- what an answer tells: of labels their points
abbrev pub told_of : Answer → Told
told_of (ans.Wrote l) = told.Wrote l.point
told_of ans.ReadNone = told.ReadNone
told_of (ans.ReadSome l v) = told.ReadSome l.point
told_of (ans.Moved l) = told.Moved l.point
told_of (ans.Shown l) = told.Shown l.point
told_of _ = told.Other

-- an entry of a run as a line of a given history
abbrev pub heard_of : Entry → Heard
heard_of e = record { act = e.act; told = told_of e.answer }

-- what a history of entries told, as one that is judged: the oldest entry first
abbrev pub history_of : Deployed → List Entry → History
history_of d h = record { deployment = d; heard = reverse (map heard_of h) }

-- ---- how labels are named

-- the label that an answer names as made, read or shown
abbrev pub named_in : Answer → Option Label
named_in (ans.Wrote l) = Some l
named_in (ans.ReadSome l v) = Some l
named_in (ans.Moved l) = Some l
named_in (ans.Shown l) = Some l
named_in _ = None

-- an answer is one that the act can have: a write makes an update of its items, a move a move to its site; reads read,
-- turns and stamps show
abbrev pub FitsAct : Act → Answer → Type 0
FitsAct a (ans.Wrote l) = (w : Written) × (write_in a ≡ Some w) × (l.kind ≡ kind.Update w.items)
FitsAct a ans.ReadNone = is_read a ≡ true
FitsAct a (ans.ReadSome l v) = is_read a ≡ true
FitsAct a (ans.Moved l) = (c j : ℕ) × (a ≡ act.Move c j) × (l.kind ≡ kind.Move j)
FitsAct a (ans.Shown l) = is_show a ≡ true
FitsAct _ _ = Unit {0}

-- an entry names labels well: its answer fits its act, what it names was made by it or before, and what it makes has a
-- point of its own
pub record NamesWell (before : List Entry) (e : Entry) : Type 0 where
  pub fits : FitsAct e.act e.answer
  pub made : (l : Label) → named_in e.answer ≡ Some l → Made (e ∷ before) l
  pub own : (l m : Label) → made_in e.answer ≡ Some l → Made before m → l.point ≡ m.point → ⊥

-- each entry names labels well
unfoldable pub AreNamedWell : List Entry → Type 0
AreNamedWell [] = Unit {0}
AreNamedWell (e ∷ before) = AreNamedWell before × NamesWell before e
