use Rattle.std.proofs.Common.{◌+◌, length}
use Rattle.sat_node.specs.Together.{lent}
use Rattle.sat_node.proofs.Members.{From}
use Rattle.sat_node.proofs.Lent.{AreFirst}
use Rattle.sat_parts_passes.proofs.Parting.{IsPart}
use Rattle.sat_parts_passes.proofs.taking.take_rest.Given as goal

abbrev pub invariant-loop-part : goal.invariant-loop-part
invariant-loop-part g l =
    AreFirst l.parts.items l.initial.parts.items
    × From (length l.parts.items) (IsPart g.M.Machine.meaning (l.last + 1) l.initial.parts.items) (lent l.initial.nodes.items) (lent l.nodes.items)

abbrev pub decreases-loop-part : goal.decreases-loop-part
decreases-loop-part g l = length l.parts.items
