-- Lines that grow.
use Rattle.std.proofs.Common.{ℕ, ◌≡◌, ◌+◌, List, [], ◌++◌, refl, add-one}
use Rattle.sat_tree.specs.Shape.{TreeShape}
use Rattle.sat_plan.specs.Texts.{place_line, place_lines, delay_line, delay_lines}

pub places_start : (places : List ℕ) → place_lines places 0 ≡ []
unfolding place_lines
places_start places = refl

pub places_more : (places : List ℕ) (z : ℕ) → place_lines places (z + 1) ≡ place_lines places z ++ place_line places z
unfolding place_lines
places_more places z = rw (add-one, place_lines) refl

pub delays_start : (t : TreeShape) (delays : List ℕ) → delay_lines t delays 0 ≡ []
unfolding delay_lines
delays_start t delays = refl

pub delays_more : (t : TreeShape) (delays : List ℕ) (e : ℕ) → delay_lines t delays (e + 1) ≡ delay_lines t delays e ++ delay_line t delays e
unfolding delay_lines
delays_more t delays e = rw (add-one, delay_lines) refl
