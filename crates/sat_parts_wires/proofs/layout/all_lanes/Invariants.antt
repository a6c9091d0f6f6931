use Rattle.std.proofs.Common.{◌≡◌}
use Rattle.std.specs.List.{flat_map}
use Rattle.sat_label.specs.Words.{below}
use Rattle.sat_parts.specs.Layout.{site_lanes}
use Rattle.sat_parts_wires.proofs.layout.all_lanes.Given as goal

abbrev pub invariant-loop-site : goal.invariant-loop-site
invariant-loop-site l = l.lanes.items ≡ flat_map (site_lanes l.d) (below l.site)
