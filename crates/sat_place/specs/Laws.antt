-- What the words of the definitions mean.
use Rattle.std.specs.Prelude.{ℕ, ◌≡◌, ◌<◌, List}
use Rattle.sat_tree.specs.Shape.{TreeShape}
use Rattle.sat_delay.specs.Table.{DelayTable}
use Rattle.sat_place.specs.Placing.{worth, IsLeast}
use Rattle.sat_place.specs.Search.{least_places}

-- a tree has one least placement
abbrev pub LeastIsOne : Type 0
LeastIsOne =
    (d : DelayTable) (t : TreeShape) (a b : List ℕ) (m n : ℕ) → IsLeast d t a m → IsLeast d t b n → (a ≡ b) × (m ≡ n)

-- where there is a place, the one that the definition finds is it
abbrev pub LeastIsFound : Type 0
LeastIsFound =
    (d : DelayTable) (t : TreeShape) → 0 < d.places → IsLeast d t (least_places d t) (worth d t (least_places d t))
