-- What opened nodes and the sessions that came back make: one journal, whose parts they are.
use Rattle.std.specs.Prelude.{◌≡◌, ℕ, ◌+◌, true, List, [], ◌∷◌, ◌++◌, length, map, reverse, Option, Some, None}
use Rattle.std.specs.Prelude.{slice_get}
use Rattle.std.specs.List.{flat_map}
use Rattle.sat_label.specs.declared.node.NodeName.{NodeName}
use Rattle.sat_label.specs.declared.node.NodeName.TheVariants as named
use Rattle.sat_label.specs.Members.{In}
use Rattle.sat_act.specs.declared.entry.Entry.{Entry}
use Rattle.sat_act.specs.Deployed.{Deployed}
use Rattle.sat_act.specs.Runs.{IsRun}
use Rattle.sat_act.specs.Settling.{run}
use Rattle.sat_machines.specs.Sites.{number_of}
use Rattle.sat_machines.specs.Serials.{epoch_in, serial_in}
use Rattle.sat_model.specs.Replay.{site_state}
use Rattle.sat_node.specs.Meanings.{replay}
use Rattle.sat_stitch.specs.Kept.{history, acts_of}
use Rattle.sat_stitch.specs.Places.{Session, session_part}
use Rattle.sat_stitch.specs.Stitch.{stitched}
use Rattle.sat_joint.specs.Table.{AtGear, AtHub, AtSerial, node_part}
use Rattle.sat_joint.specs.Machines.{kept_site, whole}
use Rattle.sat_joint.specs.Journals.{Noted as Kept, home_journal}
use Rattle.sat_parts.specs.Gears.{gear_meaning, gear_number}
use Rattle.sat_parts.specs.Hubs.{hub_meaning}
use Rattle.sat_opened.specs.Keeping.{newest, serial_kept}
use Rattle.sat_opened.specs.Opened.{entries_at}
use Rattle.sat_opened.specs.Laws.{SerialHeld}
use Rattle.sat_parts_opened.specs.Keeping.{gear_kept, hub_kept, hub_noted, own_noted, serial_noted}
use Rattle.sat_parts_opened.specs.Laws.{GearHeld, HubHeld}
use Rattle.sat_session.specs.declared.noted.Noted.{Noted}
use Rattle.sat_session.specs.Notes.{SessionSeen, session_at, session_notes}
use Rattle.sat_session.specs.Sessions.{SameNotes}
use Rattle.sat_parts_notes.specs.Notes.{part_notes}

-- ---- the journals that are merged

-- entries under their numbers, each with whether it stands at its home, the oldest first
abbrev pub Lines : Type 0
Lines = List Kept

-- the lines of a hub's journal
abbrev pub lines_at_hub : HubHeld → Lines
lines_at_hub h = map (hub_noted (number_of h.node.name)) h.node.entries

-- the lines of a gear's journal, of its own acts
abbrev pub lines_at_gear : GearHeld → Lines
lines_at_gear h = flat_map (own_noted (number_of h.node.name) (gear_number h.node.name)) h.node.entries

-- an entry at its home
abbrev pub home_line : ℕ × Entry → Kept
home_line e = (e.0, e.1, true)

-- the lines of a serializer's journal
abbrev pub lines_at_serial : SerialHeld → Lines
lines_at_serial h = map (serial_noted (epoch_in h.node.name) (serial_in h.node.name)) h.node.entries

-- a note that stands at no node
abbrev pub alone_line : Noted → Option NodeName → Lines
alone_line n None = (n.lamport, n.entry, true) ∷ []
alone_line n (Some name) = []

-- the lines of a session's notes that no node keeps
abbrev pub alone_lines : List Noted → Lines
alone_lines [] = []
alone_lines (n ∷ ns) = alone_line n n.at ++ alone_lines ns

-- journals at the places from k on
abbrev pub at_places : ℕ → List Lines → List (ℕ × Lines)
at_places k [] = []
at_places k (ls ∷ rest) = (k, ls) ∷ at_places (k + 1) rest

-- hubs by site, then gears by site and number, then serializers by epoch and number
abbrev pub part_lines : List HubHeld → List GearHeld → List SerialHeld → List Lines
part_lines hubs gears serials =
    map lines_at_hub hubs ++ (map lines_at_gear gears ++ map lines_at_serial serials)

-- and behind the first so many places the sessions by number, the operator's last
abbrev pub session_journal : ℕ → SessionSeen → ℕ × Lines
session_journal base x = (base + x.number, alone_lines x.noted)

-- how many nodes there are
abbrev pub node_count : List HubHeld → List GearHeld → List SerialHeld → ℕ
node_count hubs gears serials = length hubs + (length gears + length serials)

-- the journals that are merged: those of all hubs, all gears, all serializers, and all sessions
abbrev pub journals_of : List HubHeld → List GearHeld → List SerialHeld → List SessionSeen → List (ℕ × Lines)
journals_of hubs gears serials xs =
    at_places 0 (part_lines hubs gears serials) ++ map (session_journal (node_count hubs gears serials)) xs

-- their merge, the oldest entry first: by Lamport number, then by place, then as the journal has them
abbrev pub collected : List HubHeld → List GearHeld → List SerialHeld → List SessionSeen → List Entry
collected hubs gears serials xs = stitched (map home_journal (journals_of hubs gears serials xs))

-- ---- the one journal

abbrev pub note_entry : Noted → Entry
note_entry n = n.entry

-- what a session noted, the newest first
abbrev pub noted_entries : List Noted → List Entry
noted_entries ns = reverse (map note_entry ns)

-- this journal, the oldest entry first, is the merge of all journals, where nodes and sessions kept the same. The
-- newest first, it is a run, and the run of its acts; each node's part of it is that node's journal; each session's
-- entries are what the session noted; and it has no other entry of a client or of the operator
pub record IsCollected (d : Deployed) (hubs : List HubHeld) (gears : List GearHeld) (serials : List SerialHeld)
    (xs : List SessionSeen) (journal : List Entry) : Type 0 where
  pub same_notes : SameNotes (part_notes hubs gears serials) (session_notes d xs)
  pub merged : journal ≡ collected hubs gears serials xs
  pub is_run : IsRun d (reverse journal)
  pub of_acts : run d (acts_of (reverse journal)) ≡ reverse journal
  pub hub_parts : (n i : ℕ) (h : HubHeld) → slice_get hubs n ≡ Some h → h.node.name ≡ named.Site i
      → node_part d (reverse journal) (AtHub i) ≡ history (newest (hub_kept i) h.node.entries)
  pub gear_parts : (n i g : ℕ) (h : GearHeld) → slice_get gears n ≡ Some h → h.node.name ≡ named.Gear i g
      → node_part d (reverse journal) (AtGear i g) ≡ history (newest (gear_kept i g) h.node.entries)
  pub serial_parts : (n e z : ℕ) (h : SerialHeld) → slice_get serials n ≡ Some h → h.node.name ≡ named.Serializer e z
      → node_part d (reverse journal) (AtSerial e z) ≡ history (newest (serial_kept e z) h.node.entries)
  pub session_parts : (x : SessionSeen) → In xs x → session_part (reverse journal) (session_at d x.number)
      ≡ noted_entries x.noted
  pub no_others : (s : Session) → ((x : SessionSeen) → In xs x → session_at d x.number ≡ s → ⊥)
      → session_part (reverse journal) s ≡ []

-- in this journal, the oldest entry first, each site's state is that of its hub and its gears; versions of items that
-- the site doesn't keep are left out
abbrev pub AreStates : Deployed → List HubHeld → List GearHeld → List Entry → Type 0
AreStates d hubs gears journal = (i : ℕ) → kept_site d i (site_state d (reverse journal) i)
    ≡ whole d i (replay (hub_meaning d) (named.Site i) (entries_at (named.Site i) hubs))
    (λ g. replay (gear_meaning d) (named.Gear i g) (entries_at (named.Gear i g) gears))
