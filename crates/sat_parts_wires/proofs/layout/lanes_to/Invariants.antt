use Rattle.std.proofs.Common.{◌≡◌}
use Rattle.sat_parts_wires.proofs.Grown.{lanes_of_peers}
use Rattle.sat_parts_wires.proofs.layout.lanes_to.Given as goal

abbrev pub invariant-loop-number : goal.invariant-loop-number
invariant-loop-number l = l.lanes.items ≡ lanes_of_peers l.d l.site l.number
