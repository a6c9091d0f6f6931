use Rattle.std.proofs.Common.{◌≡◌}
use Rattle.sat_plan.specs.Mismatch.{pairs_below}
use Rattle.sat_plan.proofs.pairs.pairs.Given as goal

abbrev pub invariant-loop-from : goal.invariant-loop-from
invariant-loop-from l = l.list.items ≡ pairs_below l.sites l.from
