use Rattle.std.proofs.Common.{◌≡◌, ◌++◌, map, take}
use Rattle.sat_tree.specs.PlanLine.{spaced, parent_text}
use Rattle.sat_script.proofs.write_lines.add_parents.Given as goal

abbrev pub invariant-loop-z : goal.invariant-loop-z
invariant-loop-z l = l.line.items ≡ l.initial.line.items ++ spaced (map parent_text (take l.z l.tree.parents))
