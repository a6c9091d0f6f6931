-- What is read of any text with chains, and the history of its acts.
use Rattle.std.specs.Prelude.{ℕ, ◌≡◌, List, [], None, IfSome, IsSome}
use Rattle.std.specs.List.{AllByRecursion}
use Rattle.sat_act.specs.Deployed.{Deployed}
use Rattle.sat_act.specs.Limits.{IsDeployment}
use Rattle.sat_chain_laws.specs.ChainRuns.{IsChainRun}
use Rattle.sat_chain_laws.specs.Goals.{IsChainGood}
use Rattle.sat_chain_laws.specs.Ranges.{IsChainActOf}
use Rattle.sat_chain_laws.specs.declared.chain_act.ChainAct.{ChainAct}
use Rattle.sat_chain_script.specs.Histories.{chain_history}
use Rattle.sat_chain_script.specs.Readings.{ChainReading, chain_reading}

-- acts of a deployment, each of whose serializers has r replicas
abbrev pub AreChainActs : Deployed → ℕ → List ChainAct → Type 0
AreChainActs d r acts = AllByRecursion (λ a. IsChainActOf d r a) acts

-- the history of these acts is one with chains, and good
pub record IsGoodChain (d : Deployed) (r : ℕ) (acts : List ChainAct) : Type 0 where
  pub run : IsChainRun d r (chain_history d r acts)
  pub good : IsChainGood d r (chain_history d r acts)

-- what is read of a text, also of one with a fault, is a deployment and acts of it, whose history is good; no acts
-- where there is no deployment; and a deployment where there is no fault
pub record IsGoodChainText (r : ℕ) (x : ChainReading) : Type 0 where
  pub whole : IfSome x.deployment (λ d. IsDeployment d × AreChainActs d r x.acts × IsGoodChain d r x.acts)
  pub none : x.deployment ≡ None → x.acts ≡ []
  pub ends : x.fault ≡ None → IsSome x.deployment

abbrev pub EveryChainTextIsGood : Type 0
EveryChainTextIsGood = (r : ℕ) (text : List ℕ) → IsGoodChainText r (chain_reading r text)
