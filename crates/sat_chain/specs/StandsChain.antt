-- The chain of one serializer, in histories with chains.
use Rattle.std.specs.Prelude.{◌≡◌, ℕ, List, length, sum_by, Some}
use Rattle.sat_tree.specs.Shape.{TreeShape}
use Rattle.sat_act.specs.Deployed.{Deployed}
use Rattle.sat_act.specs.Parts.{tree_of}
use Rattle.sat_chain_laws.specs.Chains.{ChainEntry, seq, applied, plain, hops}
use Rattle.sat_chain_laws.specs.Goals.{ways}
use Rattle.sat_chain.specs.Tallies.{TellsFrom}
use Rattle.sat_chain.specs.Chained.{ChainSeen, row_of}

-- what a chain keeps is that of serializer z of an epoch's tree after a history: the lists of its replicas; how many
-- labels were put on its outgoing links; how many were taken from each neighbour; and, where the tail knows it, how
-- many applies were done
pub record StandsChain (d : Deployed) (r : ℕ) (c : List ChainEntry) (epoch z : ℕ) (ch : ChainSeen) : Type 0 where
  pub size : length ch.rows ≡ r
  pub rows : (k : ℕ) → row_of ch.rows k ≡ seq r c epoch z k
  pub put : (tree : TreeShape) → tree_of d epoch ≡ Some tree
      → ch.put ≡ sum_by (ways d tree z) (hops (plain r c) epoch z)
  pub taken : TellsFrom (hops (plain r c) epoch z) ch.taken
  pub found : (n : ℕ) → ch.found ≡ Some n → n ≡ applied c epoch z
