-- Histories with chains whose entries have the answers of their acts.
use Rattle.std.specs.Prelude.{◌≡◌, ℕ, List, [], ◌∷◌}
use Rattle.sat_act.specs.Deployed.{Deployed}
use Rattle.sat_chain_laws.specs.Chains.{ChainEntry}
use Rattle.sat_chain_laws.specs.ChainAnswers.{IsChainInRange, chain_answer}

-- a history whose acts are in range, and whose entries have the answers of their acts
unfoldable pub IsChainRun : Deployed → ℕ → List ChainEntry → Type 0
unfolding chain_answer
IsChainRun d r [] = Unit {0}
IsChainRun d r (x ∷ c) = IsChainRun d r c × IsChainInRange d r x.act × (x.answer ≡ chain_answer d r c x.act)
