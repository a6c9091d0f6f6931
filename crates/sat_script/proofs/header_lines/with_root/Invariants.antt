use Rattle.std.proofs.Common.{◌≡◌, ◌∷◌, map, take, None, Some}
use Rattle.sat_script.proofs.header_lines.with_root.Given as goal

abbrev pub invariant-loop-number : goal.invariant-loop-number
invariant-loop-number l = l.parents.items ≡ None ∷ map Some (take l.number-index l.numbers)
