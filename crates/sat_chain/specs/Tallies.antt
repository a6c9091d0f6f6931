-- How many pairs of a list came from each neighbour.
use Rattle.std.specs.Prelude.{◌≡◌, ◌<◌, ◌+◌, ℕ, List, length, get_or, set}
use Rattle.sat_label.specs.declared.node.NodeId.{NodeId}
use Rattle.sat_serial.specs.Hits.{code}
use Rattle.sat_chain_laws.specs.declared.pair.Pair.{Pair}
use Rattle.sat_chain_laws.specs.Rows.{labels_from}
use Rattle.sat_chain.specs.declared.by_node.TheConstants.{PLACES}

-- the numbers, by code, with that of a node one greater
abbrev pub raised : List ℕ → NodeId → List ℕ
raised numbers u = set numbers (code u) (get_or numbers (code u) 0 + 1)

-- there is a number for each node that a tree may have, and at its code stands how many pairs of the list came from it
pub record TellsFrom (list : List Pair) (numbers : List ℕ) : Type 0 where
  pub size : length numbers ≡ PLACES
  pub each : (u : NodeId) → code u < PLACES → get_or numbers (code u) 0 ≡ length (labels_from u list)
