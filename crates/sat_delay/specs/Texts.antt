-- What is printed of a fault.
use Rattle.std.specs.Prelude.{ℕ, List, [], ◌∷◌, ◌++◌, codes}
use Rattle.std.specs.Fmt.{decimal}
use Rattle.sat_delay.specs.declared.fault.Place.{Place}
use Rattle.sat_delay.specs.declared.fault.DelayFault.{DelayFault}
use Rattle.sat_delay.specs.declared.fault.DelayFault.TheVariants.{TooLong, NotJson, BadShape, TooBig, Memory}
use Rattle.sat_delay.specs.Reading.{key_name}

-- ` KEY ROW COLUMN`
unfoldable pub place_text : Place → List ℕ
unfolding key_name
place_text place = 32 ∷ (key_name place.key ++ 32 ∷ (decimal place.row ++ 32 ∷ decimal place.column))

unfoldable pub cause_text : DelayFault → List ℕ
unfolding place_text
cause_text TooLong = codes "TooLong"
cause_text NotJson = codes "NotJson"
cause_text (BadShape place) = codes "BadShape" ++ place_text place
cause_text (TooBig place) = codes "TooBig" ++ place_text place
cause_text Memory = codes "Memory"

-- `WORD: CAUSE`, where the word is a command's
unfoldable pub fault_line : List ℕ → DelayFault → List ℕ
unfolding cause_text
fault_line word fault = word ++ (codes ": " ++ (cause_text fault ++ 10 ∷ []))

-- `plan: CAUSE`
unfoldable pub fault_text : DelayFault → List ℕ
unfolding cause_text
fault_text fault = codes "plan: " ++ (cause_text fault ++ 10 ∷ [])
