-- What `run` makes of a reading.
use Rattle.std.specs.Prelude.{ℕ, List, [], ◌++◌, reverse, Option, Some, None}
use Rattle.sat_act.specs.declared.act.Act.{Act}
use Rattle.sat_act.specs.declared.entry.Entry.{Entry}
use Rattle.sat_act.specs.Deployed.{Deployed}
use Rattle.sat_act.specs.Settling.{run}
use Rattle.sat_script.specs.declared.fault.ScriptFault.{ScriptFault}
use Rattle.sat_stream.specs.declared.stream.Reading.{Reading}
use Rattle.sat_report.specs.Answers.{answers}
use Rattle.sat_report.specs.Holdings.{holdings}
use Rattle.sat_report.specs.Faults.{fault_line}

-- the history of a script's acts, which stand in the order of the script
unfoldable pub history : Deployed → List Act → List Entry
unfolding run
history d acts = run d (reverse acts)

-- the fault's line, where there is a fault
abbrev pub fault_text : Option ScriptFault → List ℕ
fault_text None = []
fault_text (Some fault) = fault_line fault

-- what stands behind the answers: the holdings, or the fault's line in their place
abbrev pub ending : Deployed → List Entry → Option ScriptFault → List ℕ
ending d h None = holdings d h
ending d h (Some fault) = fault_line fault

-- the text of a run. Where the header is bad, it is the fault's line alone
unfoldable pub run_text : Reading → List ℕ
unfolding history answers holdings
run_text r =
    elim r.deployment [
      | None ↦ fault_text r.fault
      | Some d ↦ answers d (history d r.acts) ++ ending d (history d r.acts) r.fault
    ]
