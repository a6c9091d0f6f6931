-- What a good script gives.
use Rattle.std.specs.Prelude.{◌≡◌, false, ℕ, List, Some, None}
use Rattle.sat_act.specs.declared.act.Act.{Act}
use Rattle.sat_act.specs.Deployed.{Deployed}
use Rattle.sat_stream.specs.Reading.{reading}
use Rattle.sat_script.specs.Spelled.{Spells}
use Rattle.sat_report.specs.Holdings.{report}
use Rattle.sat_runs.specs.Good.{IsGoodRun}
use Rattle.sat_runs.specs.Runs.{history, run_text}

-- the text spells a deployment and acts, what `run` makes of it is the report of their one history, and this history is
-- good
pub record IsGoodScript (text : List ℕ) : Type 0 where
  pub deployment : Deployed
  pub acts : List Act
  pub spelled : Spells text deployment acts
  pub written : run_text (reading false text) ≡ report deployment (history deployment acts)
  pub good : IsGoodRun deployment acts

-- where the text's header is good, the history of the acts before its first bad line is good
abbrev pub IsGoodFront : List ℕ → Type 0
IsGoodFront text = (d : Deployed) → (reading false text).deployment ≡ Some d → IsGoodRun d (reading false text).acts

-- a text that is read without a fault is a good script
abbrev pub EveryReadingIsGood : Type 0
EveryReadingIsGood = (text : List ℕ) → (reading false text).fault ≡ None → IsGoodScript text
