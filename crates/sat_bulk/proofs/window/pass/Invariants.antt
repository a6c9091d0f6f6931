use Rattle.std.proofs.Common.{◌≡◌, length}
use Rattle.sat_bulk.specs.Windows.{settled, RisesFrom}
use Rattle.sat_bulk.proofs.window.pass.Given as goal

abbrev pub invariant-loop-above : goal.invariant-loop-above
invariant-loop-above l = (settled l.front l.above.keys ≡ settled l.fn.first l.fn.above.keys) × RisesFrom l.front l.above.keys

abbrev pub decreases-loop-above : goal.decreases-loop-above
decreases-loop-above l = length l.above.keys
