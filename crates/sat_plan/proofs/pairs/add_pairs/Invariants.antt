use Rattle.std.proofs.Common.{◌≡◌, ◌++◌, map, filter}
use Rattle.sat_label.specs.Words.{below}
use Rattle.sat_plan.specs.Mismatch.{pair_of, is_other}
use Rattle.sat_plan.proofs.pairs.add_pairs.Given as goal

abbrev pub invariant-loop-to : goal.invariant-loop-to
invariant-loop-to l = l.pairs.items ≡ l.initial.pairs.items ++ map (pair_of l.from) (filter (is_other l.from) (below l.to))
