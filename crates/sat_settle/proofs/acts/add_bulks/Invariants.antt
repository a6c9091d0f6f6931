use Rattle.std.proofs.Common.{◌≡◌, ◌++◌}
use Rattle.sat_label.specs.Words.{below}
use Rattle.sat_act.specs.Settling.{joined}
use Rattle.sat_settle.specs.RoundActs.{bulk_acts_from}
use Rattle.sat_settle.proofs.acts.add_bulks.Given as goal

abbrev pub invariant-loop-from : goal.invariant-loop-from
invariant-loop-from l = l.acts ≡ l.initial.acts ++ joined (bulk_acts_from l.gears l.sites) (below l.from)
