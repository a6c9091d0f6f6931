use Rattle.std.proofs.Common.{◌≡◌, take}
use Rattle.std.specs.List.{sum_by}
use Rattle.sat_act.specs.Settling.{capped}
use Rattle.sat_world.specs.Left.{net_underway}
use Rattle.sat_world.proofs.underway.on_links.Given as goal

abbrev pub invariant-loop-net : goal.invariant-loop-net
invariant-loop-net l = l.sum ≡ capped (sum_by net_underway (take l.net-index l.nets))
