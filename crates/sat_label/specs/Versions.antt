-- The version that an update makes of an item.
use Rattle.std.specs.Prelude.{ℕ, List}
use Rattle.sat_label.specs.declared.label.Label.{Label}

-- the label of the update, and the bytes of the value
pub record Version : Type 0 where
  pub label : Label
  pub value : List ℕ
