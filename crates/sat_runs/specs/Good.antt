-- What a list of acts gives.
use Rattle.std.specs.Prelude.{ℕ, ◌≡◌, ◌<◌, ◌≤◌, true, List, ◌∷◌, ◌++◌}
use Rattle.sat_act.specs.declared.act.Act.{Act}
use Rattle.sat_act.specs.declared.entry.Entry.{Entry}
use Rattle.sat_act.specs.Deployed.{Deployed}
use Rattle.sat_act.specs.declared.act.Act.TheVariants.{Settle}
use Rattle.sat_act.specs.Goals.{IsGreatestMade}
use Rattle.sat_act.specs.Headline.{IsGood}
use Rattle.sat_act.specs.Limits.{IsDeployment}
use Rattle.sat_act.specs.Parts.{replicates, version}
use Rattle.sat_act.specs.Settling.{opening, settle}
use Rattle.sat_rest.specs.Ends.{most_rounds}
use Rattle.sat_rest.specs.Rest.{CanEnd, IsAtRest}
use Rattle.sat_script.specs.Spelled.{AreActsOf}
use Rattle.sat_runs.specs.Runs.{history}

-- What a settle after a history comes to. It ends: after at most so many rounds, by the labels that were sent and the
-- updates that were written when its rounds begin. And where it can, it ends at rest: no payload waits, nothing is
-- under way, and each site holds its items' greatest versions
pub record ComesToRest (d : Deployed) (h : List Entry) : Type 0 where
  pub bound : (settle d h).0 ≤ most_rounds d (opening d h)
  pub rests : (end : CanEnd d (settle d h).1) → IsAtRest d (settle d h).1 end.epoch
  pub agree : CanEnd d (settle d h).1 → (k x : ℕ) → k < d.sites → replicates d x k ≡ true
      → IsGreatestMade (settle d h).1 x (version (settle d h).1 k x)

-- each settle of a list of acts, after the history of the acts before it
abbrev pub SettlesRest : Deployed → List Act → Type 0
SettlesRest d acts = (front rest : List Act) → acts ≡ front ++ Settle ∷ rest → ComesToRest d (history d front)

-- the history of these acts is good, and each of its settles comes to rest
pub record IsGoodRun (d : Deployed) (acts : List Act) : Type 0 where
  pub good : IsGood d (history d acts)
  pub settles : SettlesRest d acts

-- every list of acts of a deployment has such a run
abbrev pub EveryListIsGood : Type 0
EveryListIsGood = (d : Deployed) (acts : List Act) → IsDeployment d → AreActsOf d acts → IsGoodRun d acts
