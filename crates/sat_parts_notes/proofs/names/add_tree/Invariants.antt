use Rattle.std.proofs.Common.{◌≡◌, ◌++◌, map}
use Rattle.sat_label.specs.declared.node.NodeName.TheVariants as named
use Rattle.sat_label.specs.Words.{below}
use Rattle.sat_parts_notes.proofs.names.add_tree.Given as goal

abbrev pub invariant-loop-number : goal.invariant-loop-number
invariant-loop-number l = l.names.items ≡ l.initial.names.items ++ map (named.Serializer l.epoch) (below l.number)
