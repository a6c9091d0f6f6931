-- What a text of delays says: a table, or its first fault in the order of keys, rows and columns.
use Rattle.std.specs.Prelude.{ℕ, zero, suc, ◌≡◌, ◌≢◌, ◌==◌, nat_le, nat_lt, List, [], ◌∷◌, ◌++◌, length, Option, Some}
use Rattle.std.specs.Prelude.{None, Result, Ok, Err, option_and_then, if◌then◌else◌, codes}
use Rattle.std.specs.Str.{is_utf8}
use Rattle.serde_json.specs.Data.{Data}
use Rattle.serde_json.specs.Read.{read}
use Rattle.serde_json.specs.Find.{get, at, as_number, as_u64}
use Rattle.sat_delay.specs.declared.fault.Place.{Place}
use Rattle.sat_delay.specs.declared.fault.DelayFault.{DelayFault}
use Rattle.sat_delay.specs.declared.fault.DelayFault.TheVariants.{TooLong, NotJson, BadShape, TooBig, Memory}
use Rattle.sat_delay.specs.declared.matrix.Form.{Form}
use Rattle.sat_delay.specs.declared.read.TheConstants.{MOST_TABLE_SITES}
use Rattle.sat_delay.specs.Table.{DelayTable}

-- the keys, by number
unfoldable pub key_name : ℕ → List ℕ
key_name key =
    if key == 0 then codes "sites" else (
    if key == 1 then codes "places" else (
    if key == 2 then codes "reach" else (
    if key == 3 then codes "between" else (
    if key == 4 then codes "optimal" else (
    if key == 5 then codes "weight" else (
    if key == 6 then codes "parents" else (
    if key == 7 then codes "seats" else [])))))))

abbrev pub place_at : ℕ → ℕ → ℕ → Place
place_at key row column = record { key = key; row = row; column = column }

-- what is read after a good value
abbrev pub and_then : {A B : Type 0} → Result A DelayFault → (A → Result B DelayFault) → Result B DelayFault
and_then (Ok a) next = next a
and_then (Err fault) next = Err fault

-- a whole number of at most `most`
abbrev pub within : Place → ℕ → Option ℕ → Result ℕ DelayFault
within place most None = Err (BadShape place)
within place most (Some n) = if nat_le n most then Ok n else Err (TooBig place)

-- what a value says at a place: a whole number is what `serde_json` gives as a `u64`
unfoldable pub number_at : Place → ℕ → Option Data → Result ℕ DelayFault
number_at place most value = within place most (option_and_then as_u64 (option_and_then as_number value))

-- nothing more may stand at a place
abbrev pub ended : {X : Type 0} → Place → Option Data → Result X DelayFault → Result X DelayFault
ended place more (Err fault) = Err fault
ended place None (Ok x) = Ok x
ended place (Some d) (Ok x) = Err (BadShape place)

abbrev pub added : {X : Type 0} → Result (List X) DelayFault → Result X DelayFault → Result (List X) DelayFault
added (Ok xs) (Ok x) = Ok (xs ++ x ∷ [])
added (Ok xs) (Err fault) = Err fault
added (Err fault) next = Err fault

-- the first so many of a row of results, or the first fault among them
unfoldable pub gathered : {X : Type 0} → (ℕ → Result X DelayFault) → ℕ → Result (List X) DelayFault
gathered part zero = Ok []
gathered part (suc n) = added (gathered part n) (part n)

-- a member of a list, none of anything else
abbrev pub item_at : ℕ → Option Data → Option Data
item_at n value = option_and_then (at n) value

-- A cell. A row that is missing or is no list has no first cell.
unfoldable pub cell_at : Form → ℕ → Option Data → ℕ → Result ℕ DelayFault
unfolding number_at
cell_at form r row c = number_at (place_at form.key r c) form.most (item_at c row)

-- the numbers of a row of a table's matrix, or its first fault
unfoldable pub row_of : Form → ℕ → Option Data → Result (List ℕ) DelayFault
unfolding gathered cell_at
row_of form r row =
    ended (place_at form.key r form.columns) (item_at form.columns row) (gathered (cell_at form r row) form.columns)

unfoldable pub row_at : Form → Option Data → ℕ → Result (List ℕ) DelayFault
unfolding row_of
row_at form matrix r = row_of form r (item_at r matrix)

-- A matrix that is missing or is no list has no first row.
unfoldable pub matrix_of : Form → Option Data → Result (List (List ℕ)) DelayFault
unfolding gathered row_at
matrix_of form matrix =
    ended (place_at form.key form.rows 0) (item_at form.rows matrix) (gathered (row_at form matrix) form.rows)

abbrev pub form_of : ℕ → ℕ → ℕ → ℕ → Form
form_of key rows columns most = record { key = key; rows = rows; columns = columns; most = most }

-- a number of sites or of places is not 0
abbrev pub some_of : Place → ℕ → Result ℕ DelayFault
some_of place n = if n == 0 then Err (BadShape place) else Ok n

unfoldable pub size_of : ℕ → ℕ → Data → Result ℕ DelayFault
unfolding key_name number_at
size_of key most input =
    and_then (number_at (place_at key 0 0) most (get (key_name key) input)) (some_of (place_at key 0 0))

unfoldable pub keyed : Form → Data → Result (List (List ℕ)) DelayFault
unfolding key_name matrix_of
keyed form input = matrix_of form (get (key_name form.key) input)

-- the keys in their order, with their sizes and bounds
unfoldable pub table_of : Data → Result DelayTable DelayFault
unfolding size_of keyed
table_of input =
    and_then (size_of 0 MOST_TABLE_SITES input) (λ sites.
    and_then (size_of 1 32 input) (λ places.
    and_then (keyed (form_of 2 sites places 100000) input) (λ reach.
    and_then (keyed (form_of 3 places places 100000) input) (λ between.
    and_then (keyed (form_of 4 sites sites 100000) input) (λ optimal.
    and_then (keyed (form_of 5 sites sites 1000000) input) (λ weight.
    Ok (record {
      sites = sites;
      places = places;
      reach = reach;
      between = between;
      optimal = optimal;
      weight = weight;
    })))))))

abbrev pub table_in : Option Data → Result DelayTable DelayFault
table_in None = Err NotJson
table_in (Some input) = table_of input

-- the value that `serde_json` reads from bytes
unfoldable pub json_of : List ℕ → Option Data
json_of bytes = if is_utf8 bytes then read bytes else None

-- at most 1,048,576 bytes of JSON
unfoldable pub reading : List ℕ → Result DelayTable DelayFault
unfolding json_of table_of
reading bytes = if nat_lt 1048576 (length bytes) then Err TooLong else table_in (json_of bytes)

-- a call's answer is what is known of its input; want of memory may come at any time
abbrev pub Gives : {X : Type 0} → Result X DelayFault → Result X DelayFault → Type 0
Gives (Ok x) known = known ≡ Ok x
Gives (Err fault) known = fault ≢ Memory → known ≡ Err fault
