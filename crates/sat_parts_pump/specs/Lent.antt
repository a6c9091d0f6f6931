-- Which gears of a site an act of its hub needs.
use Rattle.std.specs.Prelude.{ℕ, zero, suc, ◌+◌, ◌%◌, ◌==◌, ◌&&◌, Bool, true, false, List, [], ◌∷◌, map, if◌then◌else◌}
use Rattle.sat_label.specs.declared.node.NodeName.{NodeName}
use Rattle.sat_label.specs.declared.node.NodeName.TheVariants as named
use Rattle.sat_label.specs.Grouped.{list_of}
use Rattle.sat_label.specs.Order.{name_eq}
use Rattle.sat_sites.specs.Interested.{keeps}
use Rattle.sat_sites.specs.declared.shape.Shape.{Shape}
use Rattle.sat_parts_passes.specs.Gathers.{GearHeld}
use Rattle.sat_parts_passes.specs.Shows.{shows_one}
use Rattle.sat_parts_pump.specs.declared.lending.Lent.{Lent}
use Rattle.sat_parts_pump.specs.declared.lending.Lent.TheVariants as lent

-- whether an item is the gear's of this number, at a site of this shape, and one that the site keeps
abbrev pub shows_item : Shape → ℕ → ℕ → Bool
shows_item shape g n = (n % shape.gears == g) && keeps shape.interest n shape.site

-- whether the gear of this number is one of them
abbrev pub lends : Shape → Lent → ℕ → Bool
lends shape lent.Alone g = false
lends shape (lent.Of items) g = shows_one shape g (list_of items)
lends shape lent.All g = true

-- of so many numbers from this one on, those for which a test holds, ascending
abbrev pub gears_from : (ℕ → Bool) → ℕ → ℕ → List ℕ
gears_from test from zero = []
gears_from test from (suc n) =
    if test from then from ∷ gears_from test (from + 1) n else gears_from test (from + 1) n

-- the names of the gears that an act needs
abbrev pub lent_names : Shape → Lent → List NodeName
lent_names shape lent = map (named.Gear shape.site) (gears_from (lends shape lent) 0 shape.gears)

-- whether two lists hold the same names
abbrev pub names_eq : List NodeName → List NodeName → Bool
names_eq [] [] = true
names_eq [] (m ∷ ms) = false
names_eq (n ∷ ns) [] = false
names_eq (n ∷ ns) (m ∷ ms) = name_eq n m && names_eq ns ms

abbrev pub name_of : GearHeld → NodeName
name_of g = g.node.name

-- whether these are the gears that an act needs, each once, in the order of their numbers
abbrev pub are_lent : Shape → Lent → List GearHeld → Bool
are_lent shape lent gears = names_eq (map name_of gears) (lent_names shape lent)
