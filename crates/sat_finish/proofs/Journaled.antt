-- Opened nodes whose homes and gears kept the same parts, and sessions that noted the same, make one journal.
use Rattle.std.proofs.Common.{◌≡◌, List, sym, subst}
use Rattle.sat_act.specs.Deployed.{Deployed}
use Rattle.sat_act.specs.Limits.{IsDeployment}
use Rattle.sat_act.specs.declared.entry.Entry.{Entry}
use Rattle.sat_hub_laws.specs.Parts.{PartsAgree}
use Rattle.sat_opened.specs.Laws.{SerialHeld}
use Rattle.sat_parts_opened.specs.Laws.{GearHeld, HubHeld}
use Rattle.sat_parts_opened.specs.Opened.{PartsOpened, pieces_at}
use Rattle.sat_session.specs.Notes.{SessionSeen, session_notes}
use Rattle.sat_session.specs.Sessions.{AreSessions, SameNotes}
use Rattle.sat_parts_notes.specs.Collecting.{AreStates, IsCollected, collected}
use Rattle.sat_parts_notes.specs.Laws.{NotesAreRuns, NotesStand, pieces_alone}
use Rattle.sat_parts_notes.specs.Notes.{part_notes}
use Rattle.sat_finish.specs.Findings.{IsWhole}
use Rattle.sat_finish.specs.Parts.{SameParts}
use Rattle.sat_finish.proofs.Agree.{parts-agree}

module _ (d : Deployed) (hubs : List HubHeld) (gears : List GearHeld) (serials : List SerialHeld) (xs : List SessionSeen) where
  pub whole-is : (journal : List Entry) → NotesAreRuns → NotesStand → IsDeployment d → PartsOpened d hubs gears serials → AreSessions d xs → SameNotes (part_notes hubs gears serials) (session_notes d xs) → SameParts d hubs gears →
      journal ≡ collected hubs gears serials xs → IsWhole d hubs gears serials xs journal
  whole-is journal run stand dep opened are notes same e =
      let agree : PartsAgree d (pieces_at hubs gears serials (pieces_alone d xs)) = parts-agree d hubs gears serials opened same (pieces_alone d xs) dep in
      record {
        same_parts = same;
        one_journal = subst (λ (j : List Entry). IsCollected d hubs gears serials xs j) (sym e) (run d hubs gears serials xs dep opened are notes agree);
        states = subst (λ (j : List Entry). AreStates d hubs gears j) (sym e) (stand d hubs gears serials xs dep opened are notes agree);
      }
