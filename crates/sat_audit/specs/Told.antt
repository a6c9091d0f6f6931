-- What the text of an answer tells, by its words.
use Rattle.std.specs.Prelude.{ℕ, ◌+◌, List, [], ◌∷◌, Bool, true, false, ◌&&◌, ◌==◌, nat_le, nat_lt, length, Option}
use Rattle.std.specs.Prelude.{Some, None, if◌then◌else◌, codes}
use Rattle.std.specs.Option.{option_map}
use Rattle.std.specs.List.{slice_split, starts_with}
use Rattle.std.specs.Str.{bytes_eq}
use Rattle.sat_label.specs.Formats.{limits_of}
use Rattle.sat_label.specs.Text.{is_value}
use Rattle.sat_label.specs.declared.limits.TheConstants.{TS_END}
use Rattle.sat_label.specs.declared.point.Point.{Point}
use Rattle.sat_act.specs.Deployed.{Deployed}
use Rattle.sat_act.specs.declared.act.Act.{Act}
use Rattle.sat_act.specs.declared.act.Act.TheVariants as act
use Rattle.sat_script.specs.Causes.{item_of}
use Rattle.sat_script.specs.Words.{number_below, number_up_to, parts_of}
use Rattle.sat_audit.specs.declared.told.Told.{Told}
use Rattle.sat_audit.specs.declared.told.Told.TheVariants as told

-- ---- the words of an answer

abbrev pub is_dot : ℕ → Bool
is_dot byte = byte == 46

-- a point of three numbers, where all are good
abbrev pub point_with : Option ℕ → Option ℕ → Option ℕ → Option Point
point_with (Some ts) (Some site) (Some gear) = Some (record { ts = ts; site = site; gear = gear })
point_with _ _ _ = None

-- `TS.SITE.GEAR`, with a timestamp up to the last one, and a site and a gear of the deployment
unfoldable pub point_of : Deployed → List (List ℕ) → Option Point
unfolding number_up_to number_below
point_of d (ts ∷ site ∷ gear ∷ []) =
    point_with (number_up_to TS_END ts) (number_below d.sites site) (number_below d.gears gear)
point_of d _ = None

abbrev pub point_in : Deployed → List ℕ → Option Point
point_in d word = point_of d (slice_split is_dot word)

-- an item of at least this number, and behind it others that go on so
abbrev pub goes_on : ℕ → Option ℕ → (ℕ → Bool) → Bool
goes_on least None names = false
goes_on least (Some item) names = nat_le least item && names (item + 1)

-- each name is an item's, and the items ascend from this number on
unfoldable pub name_items : Deployed → ℕ → List (List ℕ) → Bool
unfolding item_of
name_items d least [] = true
name_items d least (name ∷ names) = goes_on least (item_of d name) (λ next. name_items d next names)

-- names of different items in header order, no more than the format writes under one label
unfoldable pub are_written : Deployed → List (List ℕ) → Bool
unfolding name_items
are_written d names = nat_le (length names) (limits_of d.format).written && name_items d 0 names

-- ---- the answers that are read

-- a word and a point
unfoldable pub pointed : Deployed → List ℕ → List (List ℕ) → Option Point
unfolding point_of
pointed d keyword (word ∷ point ∷ []) = if bytes_eq word keyword then point_in d point else None
pointed d keyword _ = None

-- `read none`, or `read L V`
unfoldable pub read_words : Deployed → List (List ℕ) → Option Told
unfolding point_of
read_words d (word ∷ none ∷ []) =
    if bytes_eq word (codes "read") && bytes_eq none (codes "none") then Some told.ReadNone else None
read_words d (word ∷ point ∷ value ∷ []) =
    if bytes_eq word (codes "read") && is_value value then option_map told.ReadSome (point_in d point) else None
read_words d _ = None

-- `shown X L`
unfoldable pub shown_words : Deployed → List (List ℕ) → Option Told
unfolding point_of are_written
shown_words d (word ∷ names ∷ point ∷ []) = if bytes_eq word (codes "shown") && are_written d (parts_of names)
    then option_map told.Shown (point_in d point) else None
shown_words d _ = None

-- ---- the acts that have such an answer

abbrev pub is_write : Act → Bool
is_write (act.Write c x value) = true
is_write (act.Writes c items values) = true
is_write _ = false

abbrev pub is_read : Act → Bool
is_read (act.Read c x) = true
is_read _ = false

abbrev pub is_move : Act → Bool
is_move (act.Move c j) = true
is_move _ = false

abbrev pub is_show : Act → Bool
is_show (act.Turn j) = true
is_show (act.Stamp j) = true
is_show _ = false

-- what such a text tells behind an act that has such an answer
abbrev pub only_if : Bool → Option Told → Option Told
only_if true says = says
only_if false says = None

-- ---- a text

-- a text begins with these bytes, which have no blank: its first word does
abbrev pub begins : List ℕ → List (List ℕ) → Bool
begins front [] = false
begins front (word ∷ words) = starts_with ◌==◌ word front

-- what the text behind an act tells: one that begins as an answer of writes, reads, moves or shows has to be such an
-- answer of that act, and every other text is not read
unfoldable pub told_in : Deployed → Act → List (List ℕ) → Option Told
unfolding pointed read_words shown_words
told_in d a words =
    if begins (codes "wrote") words
    then only_if (is_write a) (option_map told.Wrote (pointed d (codes "wrote") words)) else
    if begins (codes "read") words then only_if (is_read a) (read_words d words) else
    if begins (codes "moved") words
    then only_if (is_move a) (option_map told.Moved (pointed d (codes "moved") words)) else
    if begins (codes "shown") words then only_if (is_show a) (shown_words d words) else
    Some told.Other

-- the words of a text that is not empty: no word, or an empty one alone, is none
abbrev pub is_some_text : List (List ℕ) → Bool
is_some_text [] = false
is_some_text (word ∷ []) = nat_lt 0 (length word)
is_some_text (word ∷ next ∷ words) = true

-- what the words behind those of an act tell: an arrow and a text
unfoldable pub answered : Deployed → Act → List (List ℕ) → Option Told
unfolding told_in
answered d a [] = None
answered d a (arrow ∷ words) = if bytes_eq arrow (codes "->") && is_some_text words then told_in d a words else None

-- ---- points that are made

-- the point of the label that was made
abbrev pub made_in : Told → Option Point
made_in (told.Wrote p) = Some p
made_in (told.Moved p) = Some p
made_in _ = None
