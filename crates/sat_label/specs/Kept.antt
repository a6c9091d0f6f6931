-- Where the bytes of a value lie.
use Rattle.std.specs.Prelude.{ℕ, ◌≤◌, List, take}
use Rattle.std.specs.Arc.{arc_slice_items}
use Rattle.sat_label.specs.declared.text.Kept.{Kept}
use Rattle.sat_label.specs.declared.text.Kept.TheVariants.{Short, Long}
use Rattle.sat_label.specs.declared.text.TheConstants.{SHORT_BYTES}

-- the bytes, in the value itself or elsewhere
abbrev pub kept_bytes : Kept → List ℕ
kept_bytes kept = elim kept [
  | Short inline ↦ take inline.count inline.bytes
  | Long bytes ↦ arc_slice_items bytes
]

-- in the value itself are no more than there is room for
abbrev pub IsWithin : Kept → Type 0
IsWithin kept = elim kept [
  | Short inline ↦ inline.count ≤ SHORT_BYTES
  | Long bytes ↦ Unit {0}
]
