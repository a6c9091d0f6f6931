use Rattle.std.proofs.Common.{◌≡◌, ◌++◌}
use Rattle.sat_label.specs.Words.{below}
use Rattle.sat_act.specs.Settling.{joined}
use Rattle.sat_settle.specs.RoundActs.{bulk_to}
use Rattle.sat_settle.proofs.acts.add_bulks_by.Given as goal

abbrev pub invariant-loop-to : goal.invariant-loop-to
invariant-loop-to l = l.acts ≡ l.initial.acts ++ joined (bulk_to l.from l.gear) (below l.to)
