-- What an act does to chains, in each history that they stood for.
use Rattle.std.specs.Prelude.{◌≡◌, List, ◌∷◌}
use Rattle.sat_chain_laws.specs.declared.chain_act.ChainAct.{ChainAct}
use Rattle.sat_chain_laws.specs.declared.chain_answer.ChainAnswer.{ChainAnswer}
use Rattle.sat_chain_laws.specs.Chains.{ChainEntry}
use Rattle.sat_chain_laws.specs.ChainAnswers.{chain_answer}
use Rattle.sat_chain_laws.specs.ChainRuns.{IsChainRun}
use Rattle.sat_chain_laws.specs.Goals.{IsChainGood}
use Rattle.sat_chain.specs.Stands.{ChainsSeen, ChainsFor}

-- the answer is the history's, the chains then stand for the history with the act's entry, which is one again and good
pub record ChainApplies (old : ChainsSeen) (a : ChainAct) (r : ChainAnswer) (new : ChainsSeen) : Type 0 where
  pub answer : (c : List ChainEntry) → IsChainRun old.world.deployment old.replicas c → ChainsFor old c
      → r ≡ chain_answer old.world.deployment old.replicas c a
  pub run : (c : List ChainEntry) → IsChainRun old.world.deployment old.replicas c → ChainsFor old c
      → IsChainRun new.world.deployment new.replicas (record { act = a; answer = r } ∷ c)
  pub stands : (c : List ChainEntry) → IsChainRun old.world.deployment old.replicas c → ChainsFor old c
      → ChainsFor new (record { act = a; answer = r } ∷ c)
  pub good : (c : List ChainEntry) → IsChainRun old.world.deployment old.replicas c → ChainsFor old c
      → IsChainGood old.world.deployment old.replicas (record { act = a; answer = r } ∷ c)
  pub deployment : new.world.deployment ≡ old.world.deployment
  pub replicas : new.replicas ≡ old.replicas
