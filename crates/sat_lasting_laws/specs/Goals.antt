-- What holds of each history with stops.
use Rattle.std.specs.Prelude.{◌≡◌, ℕ, true, ◌||◌, List, is_none, is_some}
use Rattle.sat_act.specs.declared.act.Act.{Act}
use Rattle.sat_act.specs.declared.entry.Entry.{Entry}
use Rattle.sat_act.specs.Deployed.{Deployed}
use Rattle.sat_act.specs.Answers.{answer}
use Rattle.sat_act.specs.Runs.{IsRun}
use Rattle.sat_act.specs.Goals.{IsValid}
use Rattle.sat_act.specs.Headline.{HasTrees, IsGood}
use Rattle.sat_model.specs.Replay.{handed}
use Rattle.sat_lasting_laws.specs.Reached.{site_at, is_at, is_nowhere, is_refused_early}
use Rattle.sat_lasting_laws.specs.Lastings.{LastingEntry, kept}
use Rattle.sat_lasting_laws.specs.LastingAnswers.{is_allowed}
use Rattle.sat_lasting_laws.specs.LastingRuns.{IsLastingRun}

-- what a history with stops promises: the history of its kept acts is a run, whose answers are those of its plain acts
-- and those behind a stop, and so is good
pub record IsLastingGood (d : Deployed) (c : List LastingEntry) : Type 0 where
  pub run : IsRun d (kept c)
  pub good : IsGood d (kept c)

abbrev pub EveryLastingIsGood : Type 0
EveryLastingIsGood =
    (d : Deployed) (c : List LastingEntry) → IsValid d → HasTrees d → IsLastingRun d c → IsLastingGood d c

-- the site that an act is an act at is the one that the model hands something, a clock aside, which hands something to
-- all
abbrev pub HandedThere : Type 0
HandedThere =
    (d : Deployed) (h : List Entry) (a : Act) (i : ℕ) → is_allowed a ≡ true → is_some (handed d h a i) ≡ is_at d h a i

-- an act reaches no site exactly where it is none at any site, or was refused early
abbrev pub ListedReach : Type 0
ListedReach = (d : Deployed) (h : List Entry) (a : Act) → is_none (site_at d h a)
    ≡ (is_nowhere a || is_refused_early (answer d h a))
