-- Writes of several items that have a line.
use Rattle.std.proofs.Common.{◌≡◌, ℕ, true, List, [], ◌∷◌, refl}
use Rattle.std.specs.List.{AllByRecursion, list_all}
use Rattle.std.proofs.lemmas.Bool.{and_from}
use Rattle.sat_label.specs.Text.{is_value}
use Rattle.sat_live.specs.Naming.{IsSpelled}

pub all_spelled : (values : List (List ℕ)) → AllByRecursion IsSpelled values → list_all is_value values ≡ true
all_spelled [] all = refl
all_spelled (value ∷ values) all = and_from (is_value value) (list_all is_value values) all.0 (all_spelled values all.1)
