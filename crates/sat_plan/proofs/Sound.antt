-- Seats of sound trees.
use Rattle.std.proofs.Common.{ℕ, ◌≡◌, ◌<◌, length, Some, refl, arith, slice_get}
use Rattle.sat_tree.specs.Shape.{TreeShape}
use Rattle.sat_tree.specs.Cut.{seat_of}
use Rattle.sat_tree.specs.Flaw.{IsSmallTree}

pub seat_same : (t : TreeShape) (i s : ℕ) → Some s ≡ slice_get t.seats i → seat_of t i ≡ s
unfolding seat_of
seat_same t i s is = rw (← is) refl

pub seat_within : (t : TreeShape) (i s : ℕ) → IsSmallTree t → Some s ≡ slice_get t.seats i → s < length t.parents
seat_within t i s small is = let under = small.tree.seats i in let same = seat_same t i s is in omega arith
