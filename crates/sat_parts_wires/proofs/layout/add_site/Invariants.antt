use Rattle.std.proofs.Common.{◌≡◌, ◌++◌}
use Rattle.std.specs.List.{flat_map}
use Rattle.sat_label.specs.Words.{below}
use Rattle.sat_parts.specs.Layout.{gear_lanes}
use Rattle.sat_parts_wires.proofs.layout.add_site.Given as goal

abbrev pub invariant-loop-gear : goal.invariant-loop-gear
invariant-loop-gear l = l.lanes.items ≡ l.initial.lanes.items ++ flat_map (gear_lanes l.d l.site) (below l.gear)
