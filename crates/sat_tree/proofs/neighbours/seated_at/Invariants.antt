use Rattle.std.proofs.Common.{◌≡◌, map, filter}
use Rattle.sat_label.specs.declared.node.NodeId.TheVariants.{Site, Serializer}
use Rattle.sat_label.specs.Words.{below}
use Rattle.sat_tree.specs.Cut.{is_edge}
use Rattle.sat_tree.proofs.neighbours.seated_at.Given as goal

abbrev pub invariant-loop-site : goal.invariant-loop-site
invariant-loop-site l = l.nodes ≡ filter (is_edge l.layout (Serializer l.z)) (map Site (below l.site))
