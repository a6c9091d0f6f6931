use Rattle.std.proofs.Common.{◌++◌, map}
use Rattle.sat_label.specs.declared.node.NodeName.TheVariants.{Gear as AtGear}
use Rattle.sat_label.specs.Words.{below}
use Rattle.sat_opened.specs.Opened.{name_in}
use Rattle.sat_wires.proofs.Names.{AreNew}
use Rattle.sat_parts_wires.proofs.made.add_gears.Given as goal

abbrev pub invariant-loop-gear : goal.invariant-loop-gear
invariant-loop-gear g l = AreNew (map name_in l.initial.gears.items ++ map (AtGear l.site) (below l.gear)) l.gears.items
