-- What the command `place` makes of a text.
use Rattle.std.specs.Prelude.{ℕ, ◌≡◌, List, Result, Ok, Err}
use Rattle.sat_delay.specs.declared.fault.DelayFault.{DelayFault}
use Rattle.sat_place.specs.Placing.{IsLeast, worth}
use Rattle.sat_place.specs.Search.{least_places}
use Rattle.sat_place.specs.Shape.{Shape, shape_reading}
use Rattle.sat_place.specs.Texts.{place_text}

-- where the text is a table with a tree, the placement that the definition finds is the least of this tree
abbrev pub IsBestPlacement : List ℕ → Type 0
IsBestPlacement text = (s : Shape) → shape_reading text ≡ Ok s
    → IsLeast s.table s.tree (least_places s.table s.tree) (worth s.table s.tree (least_places s.table s.tree))

abbrev pub place_status : Result Shape DelayFault → ℕ
place_status (Ok shape) = 0
place_status (Err fault) = 1

-- the output of a placement over a text
pub record IsPlaced (input text : List ℕ) (status : ℕ) : Type 0 where
  pub output : text ≡ place_text input
  pub status_is : status ≡ place_status (shape_reading input)
  pub best : IsBestPlacement input
