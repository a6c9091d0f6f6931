-- What a text of delays with a tree says: a table and a tree, or its first fault.
use Rattle.std.specs.Prelude.{ℕ, zero, suc, ◌+◌, nat_lt, Bool, false, List, ◌∷◌, length, map, Option, Some, None}
use Rattle.std.specs.Prelude.{is_some, Result, Ok, Err, if◌then◌else◌}
use Rattle.serde_json.specs.Data.{Data}
use Rattle.serde_json.specs.Find.{get, as_array}
use Rattle.sat_tree.specs.Shape.{TreeShape}
use Rattle.sat_delay.specs.declared.fault.DelayFault.{DelayFault}
use Rattle.sat_delay.specs.declared.fault.DelayFault.TheVariants.{NotJson, BadShape, TooBig}
use Rattle.sat_delay.specs.Table.{DelayTable}
use Rattle.sat_delay.specs.Reading.{key_name, place_at, and_then, number_at, ended, gathered, item_at, json_of, reading}

-- a table with a tree
pub record Shape : Type 0 where
  pub table : DelayTable
  pub tree : TreeShape

-- a row of a key with one number a row, with the greatest number that may stand there
unfoldable pub row_number : ℕ → (ℕ → ℕ) → Option Data → ℕ → Result ℕ DelayFault
unfolding number_at
row_number key most list r = number_at (place_at key r 0) (most r) (item_at r list)

-- so many rows, and none after them
unfoldable pub rows_of : ℕ → (ℕ → ℕ) → ℕ → Option Data → Result (List ℕ) DelayFault
unfolding gathered row_number
rows_of key most count list =
    ended (place_at key count 0) (item_at count list) (gathered (row_number key most list) count)

-- how many of the first so many rows a list has
unfoldable pub rows_among : Option Data → ℕ → ℕ
rows_among list zero = 0
rows_among list (suc n) = rows_among list n + (if is_some (item_at n list) then 1 else 0)

-- whether there is a list
abbrev pub is_list : Option Data → Bool
is_list None = false
is_list (Some value) = is_some (as_array value)

-- the parent of serializer r + 1 stands in row r and is at most r
abbrev pub own_row : ℕ → ℕ
own_row r = r

-- at most 5 parents; where there is no list, its first row is wrong
unfoldable pub parents_of : Option Data → Result (List ℕ) DelayFault
unfolding rows_of rows_among
parents_of list = if is_list list then rows_of 6 own_row (rows_among list 5) list else Err (BadShape (place_at 6 0 0))

-- a seat is one of the serializers, which are one more than the parents
abbrev pub seat_bound : ℕ → ℕ → ℕ
seat_bound parents r = parents

-- one seat for each site
unfoldable pub seats_of : ℕ → ℕ → Option Data → Result (List ℕ) DelayFault
unfolding rows_of
seats_of parents sites list = rows_of 7 (seat_bound parents) sites list

-- a tree of parents, of which the first is that of serializer 1, and seats
abbrev pub tree_with : List ℕ → List ℕ → TreeShape
tree_with parents seats = record { parents = None ∷ map Some parents; seats = seats }

abbrev pub shape_with : DelayTable → List ℕ → List ℕ → Shape
shape_with table parents seats = record { table = table; tree = tree_with parents seats }

-- the tree of a table with at most 8 places
unfoldable pub shape_of : DelayTable → Data → Result Shape DelayFault
unfolding key_name parents_of seats_of
shape_of table input =
    if nat_lt 8 table.places then Err (TooBig (place_at 1 0 0)) else (
    and_then (parents_of (get (key_name 6) input)) (λ parents.
    and_then (seats_of (length parents) table.sites (get (key_name 7) input)) (λ seats.
    Ok (shape_with table parents seats))))

abbrev pub shape_in : Option Data → DelayTable → Result Shape DelayFault
shape_in None table = Err NotJson
shape_in (Some input) table = shape_of table input

-- first the faults of the table, and then those of the tree
unfoldable pub shape_reading : List ℕ → Result Shape DelayFault
unfolding reading json_of shape_of
shape_reading bytes = and_then (reading bytes) (shape_in (json_of bytes))
