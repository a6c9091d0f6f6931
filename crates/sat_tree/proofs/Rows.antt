-- Lists of one row for each number.
use Rattle.std.proofs.Common.{ℕ, ◌≡◌, ◌<◌, List, length, map, get_or, slice_get, ap, ◌∙◌, arith}
use Rattle.std.proofs.lemmas.List.{length-map}
use Rattle.std.proofs.lemmas.Option.{get_or_from_slice_get}
use Rattle.sat_label.specs.Words.{below}
use Rattle.sat_label.proofs.Numbers.{length-below, below-get, get-map}

pub row-within : {X : Type 0} (f : ℕ → X) (rows : List X) (n z : ℕ) → rows ≡ map f (below n) → z < n → z < length rows
row-within f rows n z is less = let e = ap length is in omega (arith, length-map (below n) f, length-below n)

pub row-is : {X : Type 0} (f : ℕ → X) (rows : List X) (n z : ℕ) (row : X) → rows ≡ map f (below n) → z < n → row ≡ get_or rows z row → row ≡ f z
row-is f rows n z row is less at =
    at ∙ get_or_from_slice_get rows z (f z) row (ap (λ rs. slice_get rs z) is ∙ get-map f (below n) z z (below-get n z less))
