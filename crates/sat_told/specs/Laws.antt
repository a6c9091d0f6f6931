-- What this crate proves of runs and of what they told.
use Rattle.std.specs.Prelude.{◌↔◌, List, None}
use Rattle.sat_act.specs.declared.entry.Entry.{Entry}
use Rattle.sat_act.specs.Deployed.{Deployed}
use Rattle.sat_act.specs.Runs.{IsRun}
use Rattle.sat_act.specs.Goals.{IsValid}
use Rattle.sat_act.specs.Goals as runs
use Rattle.sat_act.specs.Headline.{HasTrees}
use Rattle.sat_verdict.specs.declared.verdict.Verdict.{Verdict}
use Rattle.sat_verdict.specs.Goals as tales
use Rattle.sat_audit.specs.Judging.{IsVerdictOf, sets_of, tales_of}
use Rattle.sat_told.specs.Telling.{history_of, AreNamedWell}

-- a yes for each law
abbrev pub three_yeses : Verdict
three_yeses = record { causal = None; once = None; fresh = None }

-- the history that a run told has three yeses
abbrev pub EveryRunIsJudgedGood : Type 0
EveryRunIsJudgedGood =
    (d : Deployed) (h : List Entry) → IsValid d → HasTrees d → IsRun d h → IsVerdictOf (history_of d h) three_yeses

-- the entries of a run name labels well
abbrev pub RunsNameLabelsWell : Type 0
RunsNameLabelsWell = (d : Deployed) (h : List Entry) → IsValid d → IsRun d h → AreNamedWell h

-- where entries name labels well, the laws of runs hold of them exactly where those of told histories hold of what they
-- told
abbrev pub TheLawsAreOne : Type 0
TheLawsAreOne =
    (d : Deployed) (h : List Entry) → AreNamedWell h →
    (runs.Causal d h ↔ tales.Causal (sets_of d) (tales_of (history_of d h))) ×
    (runs.Once d h ↔ tales.Once (sets_of d) (tales_of (history_of d h))) ×
    (runs.Fresh h ↔ tales.Fresh (tales_of (history_of d h)))
