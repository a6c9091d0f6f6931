use Rattle.std.proofs.Common.{◌≡◌, take}
use Rattle.std.specs.List.{list_all}
use Rattle.sat_label.specs.Text.{is_between}
use Rattle.sat_label.proofs.text.all_visible.Given as goal

abbrev pub invariant-loop-byte : goal.invariant-loop-byte
invariant-loop-byte l = l.all ≡ list_all (is_between 33 126) (take l.byte-index l.bytes)
