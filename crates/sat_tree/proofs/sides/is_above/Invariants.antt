use Rattle.std.proofs.Common.{◌≡◌, ◌<◌, ◌==◌, length}
use Rattle.sat_label.specs.Words.{has}
use Rattle.sat_tree.specs.Cut.{chain}
use Rattle.sat_tree.proofs.sides.is_above.Given as goal

abbrev pub invariant-loop-at : goal.invariant-loop-at
invariant-loop-at l =
    (l.at < length l.layout.parents) × (has ◌==◌ (chain (length l.layout.parents) l.layout.parents l.at) l.z ≡ has ◌==◌ (chain (length l.layout.parents) l.layout.parents l.from) l.z)

abbrev pub decreases-loop-at : goal.decreases-loop-at
decreases-loop-at l = l.at
