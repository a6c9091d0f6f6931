-- What chains over a world keep, and the histories with chains that they stand for.
use Rattle.std.specs.Prelude.{◌≡◌, ◌≤◌, ℕ, ◌-◌, List, set, Option, Some, None, slice_get}
use Rattle.sat_label.specs.Members.{In}
use Rattle.sat_sites.specs.Interested.{Interested}
use Rattle.sat_act.specs.declared.act.Act.TheVariants as act
use Rattle.sat_act.specs.Limits.{IsDeployment}
use Rattle.sat_act.specs.Ranges.{IsActOf}
use Rattle.sat_model.specs.Interests.{interest_of}
use Rattle.sat_world.specs.Seen.{WorldSeen}
use Rattle.sat_world.specs.Stands.{StandsFor}
use Rattle.sat_chain_laws.specs.declared.pair.Pair.{Pair}
use Rattle.sat_chain_laws.specs.Chains.{ChainEntry, plain}
use Rattle.sat_chain_laws.specs.ChainRuns.{IsChainRun}
use Rattle.sat_chain.specs.Chained.{ChainSeen, row_of}
use Rattle.sat_chain.specs.StandsChain.{StandsChain}

-- the world; which sites keep which items; the number of replicas of each serializer; and the chains, by epoch from 1
-- on and then by serializer, none where an epoch's plan is stamp order
pub record ChainsSeen : Type 0 where
  pub world : WorldSeen
  pub interest : Interested
  pub replicas : ℕ
  pub chains : List (List ChainSeen)

-- the chain at a place of the first list and one of the second
abbrev pub chain_at : List (List ChainSeen) → ℕ → ℕ → Option ChainSeen
chain_at chains n z = elim (slice_get chains n) [ None ↦ None | Some row ↦ slice_get row z ]

-- the chains with another one at such a place
abbrev pub with_chain : List (List ChainSeen) → ℕ → ℕ → ChainSeen → List (List ChainSeen)
with_chain chains n z ch = elim (slice_get chains n) [ None ↦ chains | Some row ↦ set chains n (set row z ch) ]

-- the chain of serializer z of an epoch's tree
pub record HasChain (s : ChainsSeen) (epoch z : ℕ) (ch : ChainSeen) : Type 0 where
  pub epochs : 1 ≤ epoch
  pub at : chain_at s.chains (epoch - 1) z ≡ Some ch

-- chains stand for a history with chains: the world stands for the plain history, and what each chain keeps is its
-- serializer's
pub record ChainsFor (s : ChainsSeen) (c : List ChainEntry) : Type 0 where
  pub world : StandsFor s.world (plain s.replicas c)
  pub chains : (epoch z : ℕ) (ch : ChainSeen) → HasChain s epoch z ch
      → StandsChain s.world.deployment s.replicas c epoch z ch

-- the parts are those of the deployment: each serializer has a chain, and each pair in a list came over an edge of the
-- tree
pub record IsFrame (s : ChainsSeen) : Type 0 where
  pub deployment : IsDeployment s.world.deployment
  pub interest : s.interest ≡ interest_of s.world.deployment
  pub planned : (epoch z : ℕ) → IsActOf s.world.deployment (act.Kill epoch z) → (ch : ChainSeen) × HasChain s epoch z ch
  pub near : (epoch z k : ℕ) (ch : ChainSeen) (xs : List Pair) (p : Pair) → HasChain s epoch z ch
      → row_of ch.rows k ≡ Some xs → In xs p → IsActOf s.world.deployment (act.Hop epoch p.from z)

-- and they stand for some history: what holds of all such histories holds of them
pub record IsChains (s : ChainsSeen) : Type 0 where
  pub frame : IsFrame s
  pub history : List ChainEntry
  pub run : IsChainRun s.world.deployment s.replicas history
  pub stands : ChainsFor s history
