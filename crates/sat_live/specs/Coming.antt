-- What came of nodes and sessions, in plain values.
use Rattle.std.specs.Prelude.{◌≡◌, ◌+◌, Bool, List, length, reverse, Option, Result, Ok, Err}
use Rattle.std.specs.List.{AllByRecursion}
use Rattle.sat_label.specs.Members.{In}
use Rattle.sat_act.specs.declared.act.Act.{Act}
use Rattle.sat_act.specs.declared.entry.Entry.{Entry}
use Rattle.sat_act.specs.Deployed.{Deployed}
use Rattle.sat_act.specs.Runs.{IsRun}
use Rattle.sat_act.specs.Settling.{run}
use Rattle.sat_session.specs.declared.noted.Noted.{Noted}
use Rattle.sat_session.specs.Notes.{SessionSeen, session_notes}
use Rattle.sat_session.specs.Owned.{Owned}
use Rattle.sat_stitch.specs.Kept.{acts_of}
use Rattle.sat_stitch.specs.Places.{Session}
use Rattle.sat_undone.specs.Undone.{AreFronts}
use Rattle.sat_parts_notes.specs.Differences.{IsDifference}
use Rattle.sat_finish.specs.declared.fault.Ended.{Ended}
use Rattle.sat_finish.specs.declared.fault.FinishFault.{FinishFault}
use Rattle.sat_finish.specs.declared.fault.FinishFault.TheVariants as fault
use Rattle.sat_cluster.specs.Clusters.{count_given, operator_number}
use Rattle.sat_crew.specs.Crews.{HoldsSessions, IsFresh}
use Rattle.sat_live.specs.declared.nodes.Came.{Came}
use Rattle.sat_live.specs.declared.nodes.Came.TheVariants.{Whole, Differ, Apart, Memory}
use Rattle.sat_live.specs.Told.{ArePartsApart, IsTried}

-- these sessions of a cluster were given, as many as are marked, and did nothing yet
pub record AreGiven (d : Deployed) (given : List Bool) (xs : List SessionSeen) : Type 0 where
  pub marks : length given ≡ operator_number d + 1
  pub count : count_given given ≡ length xs
  pub fresh : AllByRecursion IsFresh xs

-- a journal, the oldest entry first: the newest first, it is a run, and the run of its acts
pub record IsOneRun (d : Deployed) (journal : List Entry) : Type 0 where
  pub is_run : IsRun d (reverse journal)
  pub of_acts : run d (acts_of (reverse journal)) ≡ reverse journal

-- and what each session did in it is a front of its acts in a script
pub record IsJournalOf (d : Deployed) (acts : List Act) (journal : List Entry) : Type 0 where
  pub one : IsOneRun d journal
  pub fronts : AreFronts journal acts

-- What nodes kept of an act of a session, and what the session kept of it, which are not the same. All that sessions
-- kept is of their acts in the script
pub record AreTwoNotes (acts : List Act) (node session : Option Noted) : Type 0 where
  pub nodes : List Owned
  pub sessions : List Owned
  pub each : (s : Session) (n : Noted) → In sessions (s, n) → IsTried s acts n.entry
  pub difference : IsDifference nodes sessions node session

-- a journal that has of these sessions what they noted, and of no other session anything; or what nodes kept and what
-- these sessions kept, or what two nodes kept, which is not the same
abbrev pub IsEnded : Deployed → List SessionSeen → Came → Type 0
IsEnded d xs (Whole journal) = IsOneRun d journal × HoldsSessions d xs journal
IsEnded d xs (Differ node session) = (nodes : List Owned) × IsDifference nodes (session_notes d xs) node session
IsEnded d xs (Apart number home other) = ArePartsApart home other
IsEnded d xs Memory = Unit {0}

-- what came back of the nodes: one journal of the script's acts, or two notes, or two parts, that tell one act apart
abbrev pub IsCame : Deployed → List Act → Came → Type 0
IsCame d acts (Whole journal) = IsJournalOf d acts journal
IsCame d acts (Differ node session) = AreTwoNotes acts node session
IsCame d acts (Apart number home other) = ArePartsApart home other
IsCame d acts Memory = Unit {0}

-- the end of a cluster whose sessions all came back
abbrev pub IsFinished : {N : Type 0} → Deployed → List SessionSeen → Result Ended (FinishFault N) → Type 0
IsFinished d xs (Ok e) = IsEnded d xs (Whole e.journal)
IsFinished d xs (Err (fault.SessionsOut given returned opened sessions)) = ⊥
IsFinished d xs (Err (fault.Differ node session)) = IsEnded d xs (Differ node session)
IsFinished d xs (Err (fault.Apart number home other)) = IsEnded d xs (Apart number home other)
IsFinished d xs (Err (fault.Memory opened sessions)) = Unit {0}
