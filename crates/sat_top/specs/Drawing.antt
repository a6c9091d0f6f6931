-- What `draw` makes of a script.
use Rattle.std.specs.Prelude.{ℕ, ◌≡◌, ◌+◌, false, List, [], ◌∷◌, ◌++◌, length, reverse, Option, Some, None}
use Rattle.std.specs.Prelude.{if◌then◌else◌}
use Rattle.sat_act.specs.declared.act.Act.{Act}
use Rattle.sat_act.specs.declared.entry.Entry.{Entry}
use Rattle.sat_act.specs.Deployed.{Deployed}
use Rattle.sat_script.specs.declared.fault.ScriptFault.{ScriptFault}
use Rattle.sat_stream.specs.declared.stream.Reading.{Reading}
use Rattle.sat_stream.specs.Reading.{reading}
use Rattle.sat_script.specs.Spelled.{Spells}
use Rattle.sat_report.specs.Faults.{fault_line}
use Rattle.sat_act.specs.Settling.{run, with_inner}
use Rattle.sat_settle.specs.Kept.{kept}
use Rattle.sat_draw.specs.declared.moved.Moved.{Moved}
use Rattle.sat_draw.specs.Moved.{SmallsAreTold}
use Rattle.sat_draw.specs.Drawing.{drawing}
use Rattle.sat_draw.specs.Laws.{EachIsDrawnOnce, WaysAreTold}
use Rattle.sat_draw.specs.Seats.{PathsAreAtSeats}
use Rattle.sat_runs.specs.Good.{IsGoodRun}
use Rattle.sat_runs.specs.Runs.{history}

-- the entries of a history but those that a settle made
unfoldable pub outer : List Entry → List Entry
outer [] = []
outer (e ∷ h) = if e.inner then outer h else e ∷ outer h

-- the entries of a script's acts
unfoldable pub told_history : Deployed → List Act → List Entry
unfolding outer history
told_history d acts = outer (history d acts)

-- entries of a settle that stands in a row, with their places
abbrev pub numbered : ℕ → ℕ → List Entry → List Moved
numbered row place [] = []
numbered row place (e ∷ es) = record { row = row; place = place; entry = e } ∷ numbered row (place + 1) es

-- what the settles of a run moved, of each the first entries; the newest act stands first
unfoldable pub moves_of : Deployed → List Act → List Moved
unfolding run with_inner kept
moves_of d [] = []
moves_of d (a ∷ acts) = moves_of d acts ++ numbered (length acts) 0 (kept (with_inner d (run d acts) a))

-- those of a script's acts
abbrev pub told_moves : Deployed → List Act → List Moved
told_moves d acts = moves_of d (reverse acts)

-- what is written: the drawing of the run, or the line of the first fault
abbrev pub drawn : Option Deployed → List Act → Option ScriptFault → List ℕ
drawn d acts (Some fault) = fault_line fault
drawn None acts None = []
drawn (Some d) acts None = drawing d (told_history d acts) (told_moves d acts)

-- what `draw` writes of what was read
abbrev pub draw_text : Reading → List ℕ
draw_text r = drawn r.deployment r.acts r.fault

-- the text spells a deployment and acts, and what `draw` makes of it is the drawing of their run: each act is drawn
-- once, an act that was done as done, each line of a label, a payload or a beat begins where it was left last, each
-- line of a client is at its seat, and each thin line stands for what a settle moved. This run is good
pub record IsGoodDrawing (text : List ℕ) : Type 0 where
  pub deployment : Deployed
  pub acts : List Act
  pub spelled : Spells text deployment acts
  pub written : draw_text (reading false text)
      ≡ drawing deployment (told_history deployment acts) (told_moves deployment acts)
  pub once : EachIsDrawnOnce deployment (told_history deployment acts)
  pub told : WaysAreTold deployment (told_history deployment acts)
  pub seats : PathsAreAtSeats deployment (told_history deployment acts)
  pub moved : SmallsAreTold deployment (told_moves deployment acts)
  pub good : IsGoodRun deployment acts

-- so it is with each text that is read without a fault
abbrev pub EveryDrawingIsGood : Type 0
EveryDrawingIsGood = (text : List ℕ) → (reading false text).fault ≡ None → IsGoodDrawing text
