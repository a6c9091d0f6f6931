use Rattle.std.proofs.Common.{◌≡◌}
use Rattle.std.specs.List.{sum_by}
use Rattle.sat_label.specs.Words.{below}
use Rattle.sat_act.specs.Settling.{capped}
use Rattle.sat_net.specs.Nets.{underway_from}
use Rattle.sat_net.proofs.net.Net.underway_on.Given as goal

abbrev pub invariant-loop-z : goal.invariant-loop-z
invariant-loop-z l = l.count ≡ capped (sum_by (underway_from l.self) (below l.z))
