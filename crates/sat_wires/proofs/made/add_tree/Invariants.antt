use Rattle.std.proofs.Common.{◌++◌, map}
use Rattle.sat_label.specs.declared.node.NodeName.TheVariants.{Serializer as AtSerializer}
use Rattle.sat_label.specs.Words.{below}
use Rattle.sat_opened.specs.Opened.{name_in}
use Rattle.sat_wires.proofs.Names.{AreNew}
use Rattle.sat_wires.proofs.made.add_tree.Given as goal

abbrev pub invariant-loop-number : goal.invariant-loop-number
invariant-loop-number g l = AreNew (map name_in l.initial.serials.items ++ map (AtSerializer l.epoch) (below l.number)) l.serials.items
