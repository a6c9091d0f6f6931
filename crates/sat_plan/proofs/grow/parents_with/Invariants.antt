use Rattle.std.proofs.Common.{◌≡◌, take}
use Rattle.sat_plan.proofs.grow.parents_with.Given as goal

abbrev pub invariant-loop-z : goal.invariant-loop-z
invariant-loop-z l = l.parents.items ≡ take l.z l.tree.parents
