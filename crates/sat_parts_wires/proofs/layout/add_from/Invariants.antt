use Rattle.std.proofs.Common.{◌≡◌, ◌++◌}
use Rattle.sat_parts_wires.proofs.Grown.{lanes_in}
use Rattle.sat_parts_wires.proofs.layout.add_from.Given as goal

abbrev pub invariant-loop-gear : goal.invariant-loop-gear
invariant-loop-gear l = l.lanes.items ≡ l.initial.lanes.items ++ lanes_in l.site l.from l.gear
