-- What this crate proves of settle and of runs.
use Rattle.std.specs.Prelude.{◌≡◌, List, [], ◌∷◌, ◌++◌}
use Rattle.sat_act.specs.declared.act.Act.{Act}
use Rattle.sat_act.specs.declared.entry.Entry.{Entry}
use Rattle.sat_act.specs.Deployed.{Deployed}
use Rattle.sat_act.specs.Answers.{answer}
use Rattle.sat_act.specs.Runs.{IsRun}
use Rattle.sat_act.specs.Goals.{IsValid}
use Rattle.sat_act.specs.Headline.{HasTrees, AllInRange, IsGood}
use Rattle.sat_act.specs.Settling.{settle, run, answer_of}
use Rattle.sat_rest.specs.Ends.{IsWithin, Settles}
use Rattle.sat_rest.specs.Rest.{CanEnd, IsAtRest}
use Rattle.sat_rest.specs.Printed.{printed}
use Rattle.sat_rest.specs.Flags.{without_flags}

-- every settle ends, within its bound
abbrev pub EverySettleSettles : Type 0
EverySettleSettles = (d : Deployed) (h : List Entry) → IsWithin d → IsRun d h → Settles d h

-- where it can, a settle ends at rest
abbrev pub EverySettleRests : Type 0
EverySettleRests =
    (d : Deployed) (h : List Entry) → IsWithin d → IsRun d h →
    (end : CanEnd d (settle d h).1) → IsAtRest d (settle d h).1 end.epoch

-- each act prints its answer and nothing else
abbrev pub EveryActPrintsOnce : Type 0
EveryActPrintsOnce =
    (d : Deployed) (a : Act) (acts : List Act) → AllInRange d (a ∷ acts) →
    printed (run d (a ∷ acts)) ≡ printed (run d acts) ++ answer_of d (run d acts) a ∷ []

-- every run of a list of acts, the newest first, is good
abbrev pub EveryRunIsGood : Type 0
EveryRunIsGood = (d : Deployed) (acts : List Act) → IsValid d → HasTrees d → AllInRange d acts → IsGood d (run d acts)

-- the acts of a history: flags aside, it is their run
pub record IsOfActs (d : Deployed) (h : List Entry) : Type 0 where
  pub acts : List Act
  pub range : AllInRange d acts
  pub same : without_flags h ≡ without_flags (run d acts)

-- every history that is a run is, flags aside, the run of a list of acts: the way back from runs to scripts
abbrev pub EveryRunIsOfActs : Type 0
EveryRunIsOfActs = (d : Deployed) (h : List Entry) → IsRun d h → IsOfActs d h

-- no answer depends on the flags of a history
abbrev pub AnswersIgnoreFlags : Type 0
AnswersIgnoreFlags = (d : Deployed) (h : List Entry) (a : Act) → answer d (without_flags h) a ≡ answer d h a
