use Rattle.std.proofs.Common.{◌≡◌, map, take}
use Rattle.sat_tree.specs.PlanLine.{spaced, parent_text}
use Rattle.sat_plan.proofs.text.parents_text.Given as goal

abbrev pub invariant-loop-z : goal.invariant-loop-z
invariant-loop-z l = l.text.items ≡ spaced (map parent_text (take l.z l.tree.parents))
