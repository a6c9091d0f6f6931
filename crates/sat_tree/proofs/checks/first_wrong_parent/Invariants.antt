use Rattle.std.proofs.Common.{◌≡◌, None}
use Rattle.sat_label.specs.Words.{first_failing}
use Rattle.sat_tree.specs.Flaw.{parent_fits}
use Rattle.sat_tree.proofs.checks.first_wrong_parent.Given as goal

abbrev pub invariant-loop-z : goal.invariant-loop-z
invariant-loop-z l = first_failing (parent_fits l.parents) l.z ≡ None
