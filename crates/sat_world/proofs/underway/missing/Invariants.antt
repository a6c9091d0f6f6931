use Rattle.std.proofs.Common.{◌≡◌}
use Rattle.std.specs.Prelude.{count_by}
use Rattle.sat_label.specs.Words.{below}
use Rattle.sat_world.specs.Left.{is_missing}
use Rattle.sat_world.proofs.underway.missing.Given as goal

abbrev pub invariant-loop-number : goal.invariant-loop-number
invariant-loop-number l = l.count ≡ count_by (is_missing l.receiver l.from l.gear) (below l.number)
