-- The history of a script's acts, where each serializer is a chain of replicas.
use Rattle.std.specs.Prelude.{ℕ, List, [], ◌∷◌, reverse}
use Rattle.sat_act.specs.Deployed.{Deployed}
use Rattle.sat_chain_laws.specs.declared.chain_act.ChainAct.{ChainAct}
use Rattle.sat_chain_laws.specs.ChainAnswers.{chain_answer}
use Rattle.sat_chain_laws.specs.Chains.{ChainEntry}

-- an act's entry
abbrev pub chain_entry : Deployed → ℕ → List ChainEntry → ChainAct → ChainEntry
chain_entry d r c a = record { act = a; answer = chain_answer d r c a }

-- the history of acts of which the newest stands first
unfoldable pub chain_run : Deployed → ℕ → List ChainAct → List ChainEntry
unfolding chain_answer
chain_run d r [] = []
chain_run d r (a ∷ acts) = chain_entry d r (chain_run d r acts) a ∷ chain_run d r acts

-- the history of a script's acts, which stand in the order of the script
unfoldable pub chain_history : Deployed → ℕ → List ChainAct → List ChainEntry
unfolding chain_run
chain_history d r acts = chain_run d r (reverse acts)
