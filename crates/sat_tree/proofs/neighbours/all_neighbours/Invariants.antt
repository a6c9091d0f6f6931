use Rattle.std.proofs.Common.{◌≡◌, map}
use Rattle.sat_label.specs.Words.{below}
use Rattle.sat_tree.specs.Cut.{neighbours}
use Rattle.sat_tree.proofs.neighbours.all_neighbours.Given as goal

abbrev pub invariant-loop-z : goal.invariant-loop-z
invariant-loop-z l = l.lists.items ≡ map (neighbours l.layout) (below l.z)
