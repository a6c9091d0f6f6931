use Rattle.std.proofs.Common.{◌≡◌, length}
use Rattle.sat_top.proofs.Counting.{Counts}
use Rattle.sat_top.proofs.loading.count_writes.Given as goal

abbrev pub invariant-loop-draft : goal.invariant-loop-draft
invariant-loop-draft l = record {
  deployment : l.world.deployment ≡ l.fn.world.deployment;
  counts : Counts l.fn.world.deployment l.world l.written l.coming l.initial.coming;
}

abbrev pub decreases-loop-draft : goal.decreases-loop-draft
decreases-loop-draft l = length l.coming
