use Rattle.std.proofs.Common.{◌≡◌, ◌++◌, drop}
use Rattle.sat_script.specs.Spelled.{items_text}
use Rattle.sat_script.proofs.write.items_bytes.Given as goal

abbrev pub invariant-loop-item : goal.invariant-loop-item
invariant-loop-item l = l.text.items ++ items_text (drop l.item-index l.items) ≡ items_text l.items
