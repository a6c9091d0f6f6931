use Rattle.std.proofs.Common.{◌≡◌, ◌++◌}
use Rattle.std.specs.List.{flat_map}
use Rattle.sat_label.specs.Words.{below}
use Rattle.sat_machines.specs.Layout.{serial_links}
use Rattle.sat_wires.proofs.layout.add_tree.Given as goal

abbrev pub invariant-loop-number : goal.invariant-loop-number
invariant-loop-number l = l.ways ≡ l.initial.ways ++ flat_map (serial_links (record { epoch = l.epoch; tree = l.tree })) (below l.number)
