-- What a session keeps: its notes as kept entries, what is true of them, and that they fit the journals of nodes.
use Rattle.std.specs.Prelude.{◌≡◌, ◌<◌, ◌≤◌, ℕ, true, false, List, [], ◌∷◌, length, map, Option, Some, None}
use Rattle.std.specs.Prelude.{if◌then◌else◌}
use Rattle.sat_label.specs.declared.node.NodeName.{NodeName}
use Rattle.sat_label.specs.Members.{In}
use Rattle.sat_act.specs.Deployed.{Deployed}
use Rattle.sat_act.specs.Parts.{seat}
use Rattle.sat_act.specs.Answers.{InRange}
use Rattle.sat_client.specs.declared.client.Client.{Client}
use Rattle.sat_model.specs.Fits.{is_carried, is_goal}
use Rattle.sat_model.specs.Replay.{carrying}
use Rattle.sat_stitch.specs.Kept.{Given, Nothing, OfClient, Kept, history}
use Rattle.sat_stitch.specs.Places.{Place, InSession, places, Session, Client as Owner, Operator, session_eq}
use Rattle.sat_stitch.specs.Places.{session_of}
use Rattle.sat_stitch.specs.Nodes.{IsSessionAnswer}
use Rattle.sat_stitch.specs.Stitch.{Distinct}
use Rattle.sat_opened.specs.Opened.{AreJournals, lists_of, place_at}
use Rattle.sat_opened.specs.Fits.{FitsSessions}
use Rattle.sat_opened.specs.Laws.{SiteHeld, SerialHeld}
use Rattle.sat_session.specs.declared.noted.Noted.{Noted}
use Rattle.sat_session.specs.Notes.{SessionSeen, session_at, node_notes, session_notes, nothing_carried}
use Rattle.sat_session.specs.Owned.{Owned}

-- ---- notes as kept entries, the newest first

-- what was handed to an act: what its client carried, as the note says, and the client's seat by the entries before it
abbrev pub note_given : Deployed → Session → List Kept → Noted → Given
note_given d (Owner c) before n = OfClient n.carried (seat d (history before) c)
note_given d Operator before n = Nothing

-- a note as kept, behind what its session kept before
abbrev pub note_kept : Deployed → Session → List Kept → Noted → Kept
note_kept d s before n =
    record { number = n.lamport; act = n.entry.act; given = note_given d s before n; answer = n.entry.answer }

-- these notes, which come the oldest first, in front of entries that were kept before them
abbrev pub kept_behind : Deployed → Session → List Kept → List Noted → List Kept
kept_behind d s before [] = before
kept_behind d s before (n ∷ ns) = kept_behind d s (note_kept d s before n ∷ before) ns

-- all notes of a session as kept, the newest first
abbrev pub kept_notes : Deployed → Session → List Noted → List Kept
kept_notes d s ns = kept_behind d s [] ns

-- an entry in front of others, where it stands at no node
abbrev pub put_alone : Option NodeName → Kept → List Kept → List Kept
put_alone None k ks = k ∷ ks
put_alone (Some name) k ks = ks

-- those of these notes that stand at no node, in front of such entries
abbrev pub alone_behind : Deployed → Session → List Kept → List Kept → List Noted → List Kept
alone_behind d s before ks [] = ks
alone_behind d s before ks (n ∷ ns) =
    alone_behind d s (note_kept d s before n ∷ before) (put_alone n.at (note_kept d s before n) ks) ns

-- those that no node keeps, since the act was at none
abbrev pub alone_notes : Deployed → Session → List Noted → List Kept
alone_notes d s ns = alone_behind d s [] [] ns

-- what a session noted, nothing where it is not among these
abbrev pub notes_by : Deployed → List SessionSeen → Session → List Noted
notes_by d [] s = []
notes_by d (x ∷ xs) s = if session_eq (session_at d x.number) s then x.noted else notes_by d xs s

-- what each session kept, and what each client's session kept alone
abbrev pub kept_by : Deployed → List SessionSeen → Session → List Kept
kept_by d xs s = kept_notes d s (notes_by d xs s)

-- those of client c among all sessions
abbrev pub alone_in : Deployed → List SessionSeen → ℕ → List Kept
alone_in d xs c = alone_notes d (Owner c) (notes_by d xs (Owner c))

-- ---- what is true of a session

-- a session's client after these entries. The operator carries nothing and has no seat
abbrev pub client_after : Deployed → Session → List Kept → Client
client_after d (Owner c) ks = record { carried = carrying (history ks) c; seat = seat d (history ks) c }
client_after d Operator ks = record { carried = nothing_carried; seat = None }

-- where a note stands: at its node, or in its client's session
abbrev pub note_places : Session → Option NodeName → List Place
note_places s (Some name) = place_at name ∷ []
note_places (Owner c) None = InSession c ∷ []
note_places Operator None = []

-- a note after these entries: its act is the session's, it says what the client carried, and it stands where the table
-- of places puts it. One that stands at no node is in range, and has the session's answer
pub record IsNote (d : Deployed) (s : Session) (before : List Kept) (n : Noted) : Type 0 where
  pub own : session_of n.entry.act ≡ Some s
  pub outer : n.entry.inner ≡ false
  pub knew : n.carried ≡ (client_after d s before).carried
  pub placed : places n.entry.act (note_given d s before n) ≡ note_places s n.at
  pub ranges : n.at ≡ None → InRange d n.entry.act
  pub answers : n.at ≡ None → IsSessionAnswer n.entry.act (note_given d s before n) n.entry.answer

-- each of these notes, with the entries before it
abbrev pub NotesFrom : Deployed → Session → List Kept → List Noted → Type 0
NotesFrom d s before [] = Unit {0}
NotesFrom d s before (n ∷ ns) = IsNote d s before n × NotesFrom d s (note_kept d s before n ∷ before) ns

-- their numbers rise, from one above m on
abbrev pub NotesRise : ℕ → List Noted → Type 0
NotesRise m [] = Unit {0}
NotesRise m (n ∷ ns) = (m < n.lamport) × NotesRise n.lamport ns

-- the number of the last of them, m where there is none
abbrev pub last_note : ℕ → List Noted → ℕ
last_note m [] = m
last_note m (n ∷ ns) = last_note n.lamport ns

-- what every session keeps: a client's number, or the number of clients for the operator; its notes, under numbers that
-- rise up to its own; and its client as the entries make it, whose seat, point and goal are of the deployment
pub record IsSession (d : Deployed) (x : SessionSeen) : Type 0 where
  pub limit : x.number ≤ length d.clients
  pub rises : NotesRise 0 x.noted
  pub last : x.lamport ≡ last_note 0 x.noted
  pub notes : NotesFrom d (session_at d x.number) [] x.noted
  pub made : x.client ≡ client_after d (session_at d x.number) (kept_notes d (session_at d x.number) x.noted)
  pub carries : is_carried d x.client.carried ≡ true
  pub sits : is_goal d x.client.seat ≡ true

-- ---- all sessions

abbrev pub session_number : SessionSeen → ℕ
session_number x = x.number

-- sessions of a deployment, none of them twice
pub record AreSessions (d : Deployed) (xs : List SessionSeen) : Type 0 where
  pub each : (x : SessionSeen) → In xs x → IsSession d x
  pub apart : Distinct (map session_number xs)

-- the same notes of the same sessions
abbrev pub SameNotes : List Owned → List Owned → Type 0
SameNotes a b = (s : Session) (n : Noted) → (In a (s, n) → In b (s, n)) × (In b (s, n) → In a (s, n))

-- what sessions kept fits the journals of nodes, whatever links those have, where nodes and sessions noted the same
-- acts at nodes
abbrev pub SessionsFit : Type 0
SessionsFit = (d : Deployed) (sites : List SiteHeld) (serials : List SerialHeld) (xs : List SessionSeen)
    → AreJournals d sites serials → AreSessions d xs →
    SameNotes (node_notes sites serials) (session_notes d xs)
    → FitsSessions d (lists_of sites serials (alone_in d xs)) (kept_by d xs)
