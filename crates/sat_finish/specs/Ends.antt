-- How a run ends, and why it doesn't.
use Rattle.std.specs.Prelude.{◌≡◌, List, length}
use Rattle.sat_act.specs.Deployed.{Deployed}
use Rattle.sat_session.specs.Notes.{SessionSeen, session_notes}
use Rattle.sat_session.specs.Sessions.{SameNotes}
use Rattle.sat_parts_notes.specs.Collecting.{AreStates, IsCollected}
use Rattle.sat_parts_notes.specs.Differences.{IsDifference}
use Rattle.sat_parts_notes.specs.Notes.{part_notes}
use Rattle.sat_finish.specs.declared.fault.Ended.{Ended}
use Rattle.sat_finish.specs.declared.fault.FinishFault.{FinishFault}
use Rattle.sat_finish.specs.declared.fault.FinishFault.TheVariants.{SessionsOut, Differ, Apart, Memory}
use Rattle.sat_finish.specs.Parts.{SameParts}
use Rattle.sat_finish.specs.Partings.{IsParting}
use Rattle.sat_finish.specs.Finishing.{OpenedSeen}

-- as many sessions came back as were given, each gear and each home at its site kept the same parts of acts of both,
-- and these nodes and sessions have this one journal, in which each site is its hub and its gears
pub record IsEnd (d : Deployed) (o : OpenedSeen) (xs : List SessionSeen) (e : Ended) : Type 0 where
  pub counted : o.given ≡ length xs
  pub same_deployment : e.deployment ≡ d
  pub same_parts : SameParts d o.hubs o.gears
  pub one_journal : IsCollected d o.hubs o.gears o.serials xs e.journal
  pub states : AreStates d o.hubs o.gears e.journal

-- nodes and sessions kept the same of acts at nodes
abbrev pub AreNoted : Deployed → OpenedSeen → List SessionSeen → Type 0
AreNoted d o xs = SameNotes (part_notes o.hubs o.gears o.serials) (session_notes d xs)

-- not as many sessions came back as were given: both numbers are told, and all comes back. As many did, and nodes and
-- sessions differ. Or they don't, and the home of an act and one of its gears are apart. Or there was no memory, and
-- all comes back
abbrev pub IsFault : {N : Type 0} → Deployed → OpenedSeen → List SessionSeen → FinishFault N → Type 0
IsFault d o xs (SessionsOut given returned opened sessions) =
    (given ≡ o.given) × (returned ≡ length xs) × (given ≡ returned → ⊥) × (opened ≡ o) × (sessions.items ≡ xs)
IsFault d o xs (Differ node session) =
    (o.given ≡ length xs) × IsDifference (part_notes o.hubs o.gears o.serials) (session_notes d xs) node session
IsFault d o xs (Apart lamport home other) =
    (o.given ≡ length xs) × AreNoted d o xs × IsParting d o.hubs o.gears lamport home other
IsFault d o xs (Memory opened sessions) = (o.given ≡ length xs) × (opened ≡ o) × (sessions.items ≡ xs)
