-- What opened nodes and sessions make: one journal, or where they are not one.
use Rattle.std.specs.Prelude.{List}
use Rattle.sat_act.specs.Deployed.{Deployed}
use Rattle.sat_act.specs.declared.entry.Entry.{Entry}
use Rattle.sat_opened.specs.Laws.{SerialHeld}
use Rattle.sat_parts_opened.specs.Laws.{GearHeld, HubHeld}
use Rattle.sat_session.specs.Notes.{SessionSeen, session_notes}
use Rattle.sat_session.specs.Sessions.{SameNotes}
use Rattle.sat_parts_notes.specs.Collecting.{AreStates, IsCollected}
use Rattle.sat_parts_notes.specs.Differences.{IsDifference}
use Rattle.sat_parts_notes.specs.Notes.{part_notes}
use Rattle.sat_finish.specs.declared.find.Found.{Found}
use Rattle.sat_finish.specs.declared.find.Found.TheVariants.{Differ, Apart, Whole, Memory}
use Rattle.sat_finish.specs.Parts.{SameParts}
use Rattle.sat_finish.specs.Partings.{IsParting}

module _ (d : Deployed) (hubs : List HubHeld) (gears : List GearHeld) (serials : List SerialHeld)
    (xs : List SessionSeen) where
  -- the one journal, of homes and gears that kept the same parts, in which each site is its hub and its gears
  pub record IsWhole (journal : List Entry) : Type 0 where
    pub same_parts : SameParts d hubs gears
    pub one_journal : IsCollected d hubs gears serials xs journal
    pub states : AreStates d hubs gears journal

  abbrev pub IsFound : Found → Type 0
  IsFound (Differ f) = IsDifference (part_notes hubs gears serials) (session_notes d xs) f.node f.session
  IsFound (Apart p) =
      SameNotes (part_notes hubs gears serials) (session_notes d xs) × IsParting d hubs gears p.lamport p.home p.other
  IsFound (Whole journal) = IsWhole journal
  IsFound Memory = Unit {0}
