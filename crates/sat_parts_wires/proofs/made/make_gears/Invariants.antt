use Rattle.std.specs.List.{flat_map}
use Rattle.sat_label.specs.Words.{below}
use Rattle.sat_wires.proofs.Names.{AreNew}
use Rattle.sat_parts_wires.proofs.made.make_gears.Given as goal
use Rattle.sat_parts.specs.Layout.{site_gears}

abbrev pub invariant-loop-site : goal.invariant-loop-site
invariant-loop-site g l = AreNew (flat_map (site_gears l.d.gears) (below l.site)) l.gears.items
