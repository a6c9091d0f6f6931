-- A table of delays as plain lists.
use Rattle.std.specs.Prelude.{ℕ, ◌≡◌, ◌<◌, ◌≤◌, List, [], length, slice_index}
use Rattle.std.specs.List.{slice_index_or}
use Rattle.sat_delay.specs.declared.read.TheConstants.{MOST_TABLE_SITES}

-- The numbers of sites and places; milliseconds between a site and a place, from a place to a place and at best from
-- site to site; and how much each pair of sites weighs. Each matrix is a list of rows.
pub record DelayTable : Type 0 where
  pub sites : ℕ
  pub places : ℕ
  pub reach : List (List ℕ)
  pub between : List (List ℕ)
  pub optimal : List (List ℕ)
  pub weight : List (List ℕ)

-- the number in a row and a column
abbrev pub entry : List (List ℕ) → ℕ → ℕ → ℕ
entry rows r c = slice_index (slice_index_or rows r []) c

-- so many rows of so many numbers, none above a bound
pub record IsMatrix (rows : List (List ℕ)) (count width most : ℕ) : Type 0 where
  pub tall : length rows ≡ count
  pub wide : (r : ℕ) → r < count → length (slice_index_or rows r []) ≡ width
  pub bounded : (r c : ℕ) → entry rows r c ≤ most

-- at most 16 sites and 32 places, 100,000 milliseconds and a weight of 1,000,000
pub record IsWithinLimits (t : DelayTable) : Type 0 where
  pub some_site : 0 < t.sites
  pub few_sites : t.sites ≤ MOST_TABLE_SITES
  pub some_place : 0 < t.places
  pub few_places : t.places ≤ 32
  pub reach : IsMatrix t.reach t.sites t.places 100000
  pub between : IsMatrix t.between t.places t.places 100000
  pub optimal : IsMatrix t.optimal t.sites t.sites 100000
  pub weight : IsMatrix t.weight t.sites t.sites 1000000
