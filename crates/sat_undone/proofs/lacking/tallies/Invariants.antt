use Rattle.std.proofs.Common.{take}
use Rattle.sat_undone.proofs.lacking.tallies.Given as goal
use Rattle.sat_undone.specs.Counted.{AreTallies}

abbrev pub invariant-loop-place : goal.invariant-loop-place
invariant-loop-place l = AreTallies l.clients (take l.place l.entries) l.list.items
