-- The version that a store keeps.
use Rattle.std.specs.Prelude.{ℕ, ◌≡◌, true, List, Option, Some, None, get_or, if◌then◌else◌}
use Rattle.sat_label.specs.declared.label.Label.{Label}
use Rattle.sat_label.specs.Order.{label_lt}
use Rattle.sat_label.specs.Versions.{Version}

-- the version of an item, None where nothing was put
abbrev pub version_at : List (Option Version) → ℕ → Option Version
version_at versions x = get_or versions x None

-- a version is kept where there was none, or one with a lower label
abbrev pub is_kept : Option Version → Label → Type 0
is_kept None label = Unit {0}
is_kept (Some old) label = label_lt old.label label ≡ true

-- the version with the greater label
abbrev pub newer : Option Version → Version → Option Version
newer None new = Some new
newer (Some old) new = if label_lt old.label new.label then Some new else Some old
