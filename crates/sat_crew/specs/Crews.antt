-- What a crew does of a script, session by session.
use Rattle.std.specs.Prelude.{◌≡◌, List, [], map, reverse}
use Rattle.std.specs.List.{AllZip}
use Rattle.sat_act.specs.declared.act.Act.{Act}
use Rattle.sat_act.specs.declared.entry.Entry.{Entry}
use Rattle.sat_act.specs.Deployed.{Deployed}
use Rattle.sat_parts_notes.specs.Collecting.{note_entry, noted_entries}
use Rattle.sat_label.specs.Members.{In}
use Rattle.sat_stitch.specs.Places.{Session, session_part}
use Rattle.sat_session.specs.Notes.{SessionSeen, session_at}
use Rattle.sat_undone.specs.Undone.{AreFronts, DoesAll, DoesFront, acts_of}

-- what a session noted, the oldest first
abbrev pub entries_in : SessionSeen → List Entry
entries_in x = map note_entry x.noted

-- it noted nothing yet
abbrev pub IsFresh : SessionSeen → Type 0
IsFresh x = x.noted ≡ []

-- its acts in a script
abbrev pub own_acts : Deployed → List Act → SessionSeen → List Act
own_acts d acts x = acts_of (session_at d x.number) acts

-- a session that came back: it is the same one, and by what it noted it did a front of its acts in the script, each in
-- its turn
pub record CameBack (d : Deployed) (acts : List Act) (x y : SessionSeen) : Type 0 where
  pub same : y.number ≡ x.number
  pub front : DoesFront (own_acts d acts x) (entries_in y)

-- and these were all its acts, or its client gave up
pub record CameThrough (d : Deployed) (acts : List Act) (x y : SessionSeen) : Type 0 where
  pub same : y.number ≡ x.number
  pub all : DoesAll (own_acts d acts x) (entries_in y)

-- a journal, the oldest entry first, has of these sessions what they noted, and of no other session anything
pub record HoldsSessions (d : Deployed) (ys : List SessionSeen) (journal : List Entry) : Type 0 where
  pub parts : (y : SessionSeen) → In ys y → session_part (reverse journal) (session_at d y.number)
      ≡ noted_entries y.noted
  pub no_others : (s : Session) → ((y : SessionSeen) → In ys y → session_at d y.number ≡ s → ⊥)
      → session_part (reverse journal) s ≡ []

-- in such a journal of sessions that came back, each session of the deployment did a front of its acts
abbrev pub GiveFronts : Type 0
GiveFronts = (d : Deployed) (acts : List Act) (xs ys : List SessionSeen) (journal : List Entry)
    → AllZip (CameBack d acts) xs ys → HoldsSessions d ys journal → AreFronts journal acts
