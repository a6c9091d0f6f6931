-- What keeps lists of parents and seats from being a tree.
use Rattle.std.specs.Prelude.{ℕ, ◌+◌, ◌≤◌, ◌<◌, ◌==◌, ◌&&◌, Bool, nat_lt, nat_le, List, length, Option, Some, None}
use Rattle.std.specs.Prelude.{if◌then◌else◌}
use Rattle.sat_label.specs.declared.limits.TheConstants.{MOST_SERIALIZERS, MOST_SITES}
use Rattle.sat_label.specs.Words.{first_failing}
use Rattle.sat_tree.specs.declared.fault.TreeFault.{TreeFault}
use Rattle.sat_tree.specs.declared.fault.TreeFault.TheVariants.{TooMany, NotATree}
use Rattle.sat_tree.specs.Shape.{TreeShape}
use Rattle.sat_tree.specs.Cut.{parent_of, seat_of, IsTree}

-- only the root hangs on none, and each other serializer hangs on one of a smaller number
unfoldable pub parent_fits : List (Option ℕ) → ℕ → Bool
unfolding parent_of
parent_fits parents z = elim (parent_of parents z) [ None ↦ z == 0 | Some p ↦ nat_lt p z ]

-- a site's seat is a serializer
unfoldable pub seat_fits : TreeShape → ℕ → Bool
unfolding seat_of
seat_fits t i = nat_lt (seat_of t i) (length t.parents)

-- 1 to 15 serializers
unfoldable pub few_serializers : List (Option ℕ) → Bool
few_serializers parents = nat_lt 0 (length parents) && nat_le (length parents) MOST_SERIALIZERS

-- the first fault: too many or no serializers, then the first wrong parent, then the first wrong seat
unfoldable pub tree_flaw : TreeShape → Option TreeFault
unfolding parent_fits seat_fits few_serializers
tree_flaw t =
    if few_serializers t.parents
    then elim (first_failing (parent_fits t.parents) (length t.parents)) [
      | Some z ↦ Some (NotATree z)
      | None ↦ elim (first_failing (seat_fits t) (length t.seats)) [
        | Some i ↦ Some (NotATree (length t.parents + i))
        | None ↦ None
      ]
    ]
    else Some (TooMany (length t.parents))

-- a tree, of 1 to 15 serializers and at most 64 sites
pub record IsSmallTree (t : TreeShape) : Type 0 where
  pub tree : IsTree t
  pub some_serializer : 0 < length t.parents
  pub few_serializers : length t.parents ≤ MOST_SERIALIZERS
  pub few_seats : length t.seats ≤ MOST_SITES
