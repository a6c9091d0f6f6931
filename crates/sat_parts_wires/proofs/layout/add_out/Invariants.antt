use Rattle.std.proofs.Common.{◌≡◌, ◌++◌}
use Rattle.sat_parts_wires.specs.Lanes.{lanes_out}
use Rattle.sat_parts_wires.proofs.layout.add_out.Given as goal

abbrev pub invariant-loop-number : goal.invariant-loop-number
invariant-loop-number l = l.lanes.items ≡ l.initial.lanes.items ++ lanes_out l.site l.gear l.number
