-- The lists of a chain's replicas, None where one has crashed.
use Rattle.std.specs.Prelude.{◌≡◌, ℕ, zero, suc, ◌-◌, ◌+◌, ◌==◌, List, [], ◌∷◌, ◌++◌, slice_get, Option, Some, None}
use Rattle.std.specs.Prelude.{if◌then◌else◌}
use Rattle.sat_label.specs.declared.label.Label.{Label}
use Rattle.sat_label.specs.declared.node.NodeId.{NodeId}
use Rattle.sat_label.specs.Order.{node_eq}
pub use Rattle.sat_chain_laws.specs.declared.pair.Pair.{Pair}

-- a living replica's number and list
pub record Replica : Type 0 where
  pub number : ℕ
  pub list : List Pair

-- what each replica has, by its number
abbrev pub Row : Type 0
Row = ℕ → Option (List Pair)

-- replica k where it lives, else another
abbrev pub here_or : ℕ → Option (List Pair) → Option Replica → Option Replica
here_or k (Some xs) rest = Some (record { number = k; list = xs })
here_or k None rest = rest

-- the first living replica of the n that begin with number k
unfoldable pub first_from : Row → ℕ → ℕ → Option Replica
first_from row k zero = None
first_from row k (suc n) = here_or k (row k) (first_from row (k + 1) n)

-- the head: the first living replica of r
unfoldable pub head : ℕ → Row → Option Replica
unfolding first_from
head r row = first_from row 0 r

-- the first living replica after number k
unfoldable pub next_after : ℕ → Row → ℕ → Option Replica
unfolding first_from
next_after r row k = first_from row (k + 1) (r - (k + 1))

-- the tail: the last living replica of r
unfoldable pub tail : ℕ → Row → Option Replica
tail zero row = None
tail (suc n) row = here_or n (row n) (tail n row)

-- the row with another thing at place j
abbrev pub row_with : Row → ℕ → Option (List Pair) → Row
row_with row j x k = if j == k then x else row k

-- the labels of a list that came from a neighbour, in order
unfoldable pub labels_from : NodeId → List Pair → List Label
labels_from u [] = []
labels_from u (p ∷ ps) = if node_eq p.from u then p.label ∷ labels_from u ps else labels_from u ps

-- ys is how xs begins
abbrev pub IsPrefix : {X : Type 0} → List X → List X → Type 0
IsPrefix {X} ys xs = (rest : List X) × (xs ≡ ys ++ rest)

-- the row of a list of what each replica has
abbrev pub row_of : List (Option (List Pair)) → Row
row_of rows k = elim (slice_get rows k) [ None ↦ None | Some x ↦ x ]

-- a replica's number
abbrev pub number_of : Option Replica → Option ℕ
number_of None = None
number_of (Some q) = Some q.number
