-- What this crate proves of nodes and sessions that noted the same.
use Rattle.std.specs.Prelude.{ℕ, List}
use Rattle.sat_act.specs.Deployed.{Deployed}
use Rattle.sat_act.specs.Limits.{IsDeployment}
use Rattle.sat_stitch.specs.Places.{Session}
use Rattle.sat_joint.specs.Pieces.{Piece}
use Rattle.sat_hub_laws.specs.Parts.{PartsAgree}
use Rattle.sat_opened.specs.Laws.{SerialHeld}
use Rattle.sat_parts_opened.specs.Opened.{PartsOpened, pieces_at, pieces_of}
use Rattle.sat_parts_opened.specs.Laws.{AreJournals, GearHeld, HubHeld, SessionsFit}
use Rattle.sat_session.specs.Notes.{SessionSeen, session_notes}
use Rattle.sat_session.specs.Sessions.{AreSessions, SameNotes, alone_in, kept_by}
use Rattle.sat_parts_notes.specs.Notes.{part_notes}
use Rattle.sat_parts_notes.specs.Collecting.{AreStates, IsCollected, collected}

-- what each session kept, as pieces of acts, and what each client's session kept alone
abbrev pub pieces_by : Deployed → List SessionSeen → Session → List Piece
pieces_by d xs s = pieces_of (kept_by d xs s)

-- and of a client's session what no node keeps
abbrev pub pieces_alone : Deployed → List SessionSeen → ℕ → List Piece
pieces_alone d xs c = pieces_of (alone_in d xs c)

-- what sessions kept fits the journals of nodes, whatever links those have, where nodes and sessions noted the same
-- acts at nodes
abbrev pub NotesFit : Type 0
NotesFit =
    (d : Deployed) (hubs : List HubHeld) (gears : List GearHeld) (serials : List SerialHeld) (xs : List SessionSeen)
    → AreJournals d hubs gears serials → AreSessions d xs
    → SameNotes (part_notes hubs gears serials) (session_notes d xs)
    → SessionsFit d (pieces_at hubs gears serials (pieces_alone d xs)) (pieces_by d xs)

-- so where the parts of hubs and gears agree too, opened nodes and their sessions have one journal
abbrev pub NotesAreRuns : Type 0
NotesAreRuns =
    (d : Deployed) (hubs : List HubHeld) (gears : List GearHeld) (serials : List SerialHeld) (xs : List SessionSeen)
    → IsDeployment d → PartsOpened d hubs gears serials → AreSessions d xs
    → SameNotes (part_notes hubs gears serials) (session_notes d xs)
    → PartsAgree d (pieces_at hubs gears serials (pieces_alone d xs))
    → IsCollected d hubs gears serials xs (collected hubs gears serials xs)

-- in which each site's state is that of its hub and its gears
abbrev pub NotesStand : Type 0
NotesStand =
    (d : Deployed) (hubs : List HubHeld) (gears : List GearHeld) (serials : List SerialHeld) (xs : List SessionSeen)
    → IsDeployment d → PartsOpened d hubs gears serials → AreSessions d xs
    → SameNotes (part_notes hubs gears serials) (session_notes d xs)
    → PartsAgree d (pieces_at hubs gears serials (pieces_alone d xs))
    → AreStates d hubs gears (collected hubs gears serials xs)
