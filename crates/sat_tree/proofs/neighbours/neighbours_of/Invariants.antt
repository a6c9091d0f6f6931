use Rattle.std.proofs.Common.{◌≡◌, ◌++◌, map, filter, length}
use Rattle.sat_label.specs.declared.node.NodeId.TheVariants.{Site, Serializer}
use Rattle.sat_label.specs.Words.{below}
use Rattle.sat_tree.specs.Cut.{is_edge}
use Rattle.sat_tree.proofs.neighbours.neighbours_of.Given as goal

abbrev pub invariant-loop-y : goal.invariant-loop-y
invariant-loop-y l =
    l.nodes ≡ filter (is_edge l.layout (Serializer l.z)) (map Site (below (length l.layout.seats)) ++ map Serializer (below l.y))
