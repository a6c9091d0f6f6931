-- What `load` makes of two numbers.
use Rattle.std.specs.Prelude.{ℕ, List}
use Rattle.sat_act.specs.declared.entry.Entry.{Entry}
use Rattle.sat_outside.specs.Streams.{Told, Takes}
use Rattle.sat_report.specs.Summary.{summary}
use Rattle.sat_settle.specs.LoadActs.{load_acts}
use Rattle.sat_settle.specs.LoadHeader.{load_deployment}
use Rattle.sat_runs.specs.Good.{IsGoodRun}
use Rattle.sat_runs.specs.Runs.{history}

-- the history of the script that is made
unfoldable pub load_history : ℕ → ℕ → List Entry
unfolding history
load_history seed acts = history load_deployment (load_acts seed acts)

-- the summary of its run
unfoldable pub load_text : ℕ → ℕ → List ℕ
unfolding load_history summary
load_text seed acts = summary load_deployment (load_history seed acts) seed acts

-- the run is good: each settle of it ends within its bound, and where it can, at rest
abbrev pub IsGoodLoad : ℕ → ℕ → Type 0
IsGoodLoad seed acts = IsGoodRun load_deployment (load_acts seed acts)

-- The sink took the summary of the run of what is made of these numbers, and this run is good.
pub record HasLoaded (seed acts : ℕ) (old new : Told) : Type 0 where
  pub written : Takes old new (load_text seed acts)
  pub good : IsGoodLoad seed acts
