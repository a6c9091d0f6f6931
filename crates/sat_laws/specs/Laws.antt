-- What this crate proves of histories.
use Rattle.std.specs.Prelude.{List}
use Rattle.sat_act.specs.declared.entry.Entry.{Entry}
use Rattle.sat_act.specs.Deployed.{Deployed}
use Rattle.sat_act.specs.Runs.{IsRun}
use Rattle.sat_act.specs.Goals.{IsValid}
use Rattle.sat_act.specs.Headline.{HasTrees, IsGood}

-- every history whose entries have the answers of their acts is good
abbrev pub EveryHistoryIsGood : Type 0
EveryHistoryIsGood = (d : Deployed) (h : List Entry) → IsValid d → HasTrees d → IsRun d h → IsGood d h
