-- Which gears are locked together.
use Rattle.std.specs.Prelude.{ℕ, ◌==◌, Bool, true, false, List, [], ◌∷◌, map}
use Rattle.sat_label.specs.declared.items.Items.{Items}
use Rattle.sat_label.specs.Grouped.{list_of}
use Rattle.sat_label.specs.Words.{has}
use Rattle.sat_act.specs.Answers.{gear_of}
use Rattle.sat_act.specs.Deployed.{Deployed}

-- whether the gear of this number has one of these items
abbrev pub has_item : Deployed → Items → ℕ → Bool
has_item d items g = has ◌==◌ (map (gear_of d) (list_of items)) g

-- this number alone, where it is wanted, and else none
abbrev pub one_if : Bool → ℕ → List ℕ
one_if true n = n ∷ []
one_if false n = []
