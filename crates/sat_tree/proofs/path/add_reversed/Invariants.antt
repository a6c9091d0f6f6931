use Rattle.std.proofs.Common.{◌≡◌, ◌++◌, reverse, length}
use Rattle.sat_tree.proofs.path.add_reversed.Given as goal

abbrev pub invariant-loop-node : goal.invariant-loop-node
invariant-loop-node l = (l.nodes ++ reverse l.back.items) ≡ (l.initial.nodes ++ reverse l.initial.back.items)

abbrev pub decreases-loop-node : goal.decreases-loop-node
decreases-loop-node l = length l.back.items
