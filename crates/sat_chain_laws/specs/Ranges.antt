-- Acts of scripts with chains whose numbers name what they should.
use Rattle.std.specs.Prelude.{◌≡◌, ◌<◌, ℕ, true}
use Rattle.sat_act.specs.declared.act.Act.TheVariants as act
use Rattle.sat_act.specs.Deployed.{Deployed}
use Rattle.sat_act.specs.Ranges.{IsActOf}
use Rattle.sat_chain_laws.specs.declared.chain_act.ChainAct.{ChainAct}
use Rattle.sat_chain_laws.specs.declared.chain_act.ChainAct.TheVariants as chain
use Rattle.sat_chain_laws.specs.ChainAnswers.{is_allowed}

-- the act has a line under the deployment's header, with r replicas a serializer: a plain act is one that scripts with
-- chains may have, `enter` has an edge into a serializer as a hop has it, and the others a serializer of an epoch's
-- tree as a kill has it. A history with chains asks for less, `IsChainInRange` (ChainAnswers)
abbrev pub IsChainActOf : Deployed → ℕ → ChainAct → Type 0
IsChainActOf d r (chain.Plain a) = IsActOf d a × (is_allowed a ≡ true)
IsChainActOf d r (chain.Enter epoch u z) = IsActOf d (act.Hop epoch u z)
IsChainActOf d r (chain.Pass epoch z k) = IsActOf d (act.Kill epoch z) × (k < r)
IsChainActOf d r (chain.Apply epoch z) = IsActOf d (act.Kill epoch z)
IsChainActOf d r (chain.Crash epoch z k) = IsActOf d (act.Kill epoch z) × (k < r)
