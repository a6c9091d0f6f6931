use Rattle.std.specs.Prelude.{length}
use Rattle.std.proofs.Common.{◌≡◌}
use Rattle.sat_bulk.specs.Windows.{marked, passed, RisesFrom}
use Rattle.sat_bulk.proofs.window.pass_marks.Given as goal

abbrev pub invariant-loop-mark : goal.invariant-loop-mark
invariant-loop-mark l = (passed l.front l.marks.items ≡ passed l.fn.first l.fn.marks.items) × RisesFrom l.front (marked l.front l.marks.items)

abbrev pub decreases-loop-mark : goal.decreases-loop-mark
decreases-loop-mark l = length l.marks.items
