use Rattle.std.proofs.Common.{◌≡◌, ◌++◌}
use Rattle.sat_label.specs.Words.{below}
use Rattle.sat_act.specs.Settling.{joined}
use Rattle.sat_settle.specs.RoundActs.{bulk_acts_by}
use Rattle.sat_settle.proofs.acts.add_bulks_from.Given as goal

abbrev pub invariant-loop-gear : goal.invariant-loop-gear
invariant-loop-gear l = l.acts ≡ l.initial.acts ++ joined (bulk_acts_by l.from l.sites) (below l.gear)
