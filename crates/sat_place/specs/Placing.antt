-- The places of a given tree's serializers, and the least of them.
use Rattle.std.specs.Prelude.{ℕ, ◌≡◌, ◌<◌, ◌≤◌, ◌⊎◌, List, [], ◌∷◌, length, slice_index}
use Rattle.sat_tree.specs.Shape.{TreeShape}
use Rattle.sat_delay.specs.Table.{DelayTable}
use Rattle.sat_plan.specs.Mismatch.{mismatch}
use Rattle.sat_plan.specs.Steps.{undelayed}

-- the mismatch of a tree at these places with all delays 0
unfoldable pub worth : DelayTable → TreeShape → List ℕ → ℕ
unfolding mismatch undelayed
worth d t places = mismatch d (undelayed t places)

-- a list comes before another in lexicographic order: at the first place where they differ it has the lower number
abbrev pub Before : List ℕ → List ℕ → Type 0
Before [] ys = ⊥
Before (x ∷ xs) [] = ⊥
Before (x ∷ xs) (y ∷ ys) = (x < y) ⊎ ((x ≡ y) × Before xs ys)

-- one place of the table for each serializer
pub record IsPlacing (d : DelayTable) (t : TreeShape) (places : List ℕ) : Type 0 where
  pub one_each : length places ≡ length t.parents
  pub within : (z : ℕ) → z < length places → slice_index places z < d.places

-- These places have this mismatch, no others have a lower one, and none that come before them an equal one.
pub record IsLeast (d : DelayTable) (t : TreeShape) (places : List ℕ) (mismatch : ℕ) : Type 0 where
  pub placing : IsPlacing d t places
  pub own : mismatch ≡ worth d t places
  pub best : (others : List ℕ) → IsPlacing d t others → mismatch ≤ worth d t others
  pub first : (others : List ℕ) → IsPlacing d t others → Before others places → mismatch < worth d t others
