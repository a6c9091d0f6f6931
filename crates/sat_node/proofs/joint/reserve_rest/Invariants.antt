use Rattle.sat_node.specs.Together.{AllSame, lent}
use Rattle.sat_node.proofs.Lent.{RoomFirst}
use Rattle.sat_node.proofs.joint.reserve_rest.Given as goal

abbrev pub invariant-loop-k : goal.invariant-loop-k
invariant-loop-k g l = AllSame (lent l.initial.nodes.items) (lent l.nodes.items) × RoomFirst l.k (lent l.nodes.items)
