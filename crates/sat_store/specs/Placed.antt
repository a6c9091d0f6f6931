-- How a store lays out its versions: side by side, and for each item the place of its version among them.
use Rattle.std.specs.Prelude.{ℕ, ◌≡◌, ◌≤◌, ◌<◌, ◌+◌, ◌^◌, List, Option, Some, None, length, map, get_or, slice_get}
use Rattle.std.specs.Prelude.{is_none}
use Rattle.std.specs.List.{count_by}
use Rattle.sat_label.specs.Versions.{Version}

-- the version at a place, None where an item has no place
abbrev pub at_place : List Version → Option ℕ → Option Version
at_place versions None = None
at_place versions (Some place) = slice_get versions place

-- the version of each item
abbrev pub placed : List Version → List (Option ℕ) → List (Option Version)
placed versions places = map (at_place versions) places

-- how many items have no place
abbrev pub without_place : List (Option ℕ) → ℕ
without_place places = count_by is_none places

-- each place is that of a version, and of one item alone; with the items that have none these are all, and there is
-- room for a version of each
pub record IsPlaced (places : List (Option ℕ)) (versions : List Version) (capacity : ℕ) : Type 0 where
  pub few : length places < 2 ^ 16
  pub within : (x place : ℕ) → get_or places x None ≡ Some place → place < length versions
  pub alone : (x y place : ℕ) → get_or places x None ≡ Some place → get_or places y None ≡ Some place → x ≡ y
  pub counted : length versions + without_place places ≡ length places
  pub room : length places ≤ capacity
