-- Items and clients whose names are names, and values that are values.
use Rattle.std.specs.Prelude.{◌≡◌, ℕ, true, List}
use Rattle.sat_label.specs.Text.{is_name, is_value}
use Rattle.sat_act.specs.declared.deployment.ClientLine.{ClientLine}
use Rattle.sat_act.specs.declared.deployment.Item.{Item}

-- an item whose name can stand in a script
abbrev pub IsNamedItem : Item → Type 0
IsNamedItem item = is_name item.name ≡ true

-- a client whose name can stand in a script
abbrev pub IsNamedClient : ClientLine → Type 0
IsNamedClient line = is_name line.name ≡ true

abbrev pub IsSpelled : List ℕ → Type 0
IsSpelled value = is_value value ≡ true
