-- What a chain keeps of one serializer.
use Rattle.std.specs.Prelude.{◌≡◌, ◌<◌, ◌≤◌, ◌+◌, ℕ, List, [], length, set, take, sum_by, replicate, Option, Some, None}
use Rattle.std.specs.Prelude.{slice_get}
use Rattle.sat_label.specs.Members.{In}
use Rattle.sat_label.specs.declared.node.NodeId.{NodeId}
use Rattle.sat_sites.specs.Interested.{Interested, IsLabelOf}
use Rattle.sat_tree.specs.Shape.{TreeShape}
use Rattle.sat_serial.specs.Routes.{routes}
use Rattle.sat_chain_laws.specs.declared.pair.Pair.{Pair}
use Rattle.sat_chain_laws.specs.Rows.{Replica}
use Rattle.sat_chain.specs.declared.by_node.TheConstants.{PLACES}
use Rattle.sat_chain.specs.Tallies.{raised}

-- by number what each replica has, None where it has crashed; how many labels were put on the outgoing links, all
-- together; how many were taken from each neighbour, by its code; and how many pairs took effect, None where the tail
-- has not looked yet
pub record ChainSeen : Type 0 where
  pub rows : List (Option (List Pair))
  pub put : ℕ
  pub taken : List ℕ
  pub found : Option ℕ

-- so many replicas with empty lists
abbrev pub fresh_chain : ℕ → ChainSeen
fresh_chain r = record { rows = replicate r (Some []); put = 0; taken = replicate PLACES 0; found = None }

-- what each replica has, by its number, of a list of that
abbrev pub row_of : List (Option (List Pair)) → ℕ → Option (List Pair)
row_of rows k = elim (slice_get rows k) [ None ↦ None | Some x ↦ x ]

-- a replica's number
abbrev pub number_of : Option Replica → Option ℕ
number_of None = None
number_of (Some q) = Some q.number

-- a replica has something else
abbrev pub after_change : ChainSeen → ℕ → List Pair → ChainSeen
after_change ch k xs = record ch { rows = set ch.rows k (Some xs) }

-- a replica has crashed. Which pairs took effect the next tail has to find out
abbrev pub after_crash : ChainSeen → ℕ → ChainSeen
after_crash ch k = record ch { rows = set ch.rows k None; found = None }

-- the tail has looked, and knows how many pairs took effect
abbrev pub after_look : ChainSeen → ℕ → ChainSeen
after_look ch n = record ch { found = Some n }

-- the pair at place n, which came from node u, took effect: so many labels were put on the outgoing links
abbrev pub after_effect : ChainSeen → ℕ → NodeId → ℕ → ChainSeen
after_effect ch n u count =
    record { rows = ch.rows; put = ch.put + count; taken = raised ch.taken u; found = Some (n + 1) }

-- on how many outgoing links of serializer z a pair is put
abbrev pub ways_on : Interested → TreeShape → ℕ → Pair → ℕ
ways_on a t z p = length (routes a t z p.from p.label)

-- the first n pairs of a list account for what was put on the outgoing links
pub record Accounts (a : Interested) (t : TreeShape) (z : ℕ) (xs : List Pair) (put n : ℕ) : Type 0 where
  pub within : n ≤ length xs
  pub sum : sum_by (ways_on a t z) (take n xs) ≡ put

-- a list tells from what was put how many of its pairs took effect: their labels are of the deployment, each goes on
-- somewhere, and some of the first account for what was put
pub record CanTell (a : Interested) (t : TreeShape) (z : ℕ) (xs : List Pair) (put : ℕ) : Type 0 where
  pub labels : (p : Pair) → In xs p → IsLabelOf a p.label
  pub each : (p : Pair) → In xs p → 0 < ways_on a t z p
  pub count : ℕ
  pub some : Accounts a t z xs put count
