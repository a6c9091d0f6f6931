use Rattle.std.proofs.Common.{◌<◌, ◌+◌, length}
use Rattle.sat_label.specs.declared.node.NodeId.TheVariants.{Site}
use Rattle.sat_tree.proofs.Ways.{Completes}
use Rattle.sat_tree.proofs.path.path.Given as goal

abbrev pub invariant-loop-here : goal.invariant-loop-here
invariant-loop-here l =
    (l.here < length l.layout.parents) × (l.there < length l.layout.parents) × Completes l.layout (Site l.from) (Site l.to) l.way l.back.items l.here l.there

abbrev pub decreases-loop-here : goal.decreases-loop-here
decreases-loop-here l = l.here + l.there
