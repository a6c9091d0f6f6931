use Rattle.std.proofs.Common.{arith}
use Rattle.sat_plan.proofs.Legs.{edge_in}
use Rattle.sat_place.proofs.ways.hops_of.Goals as goal

pub add_hop-requires-clause-edge : goal.add_hop-requires-clause-edge
add_hop-requires-clause-edge c = edge_in _ _ _ c.requires.edges (omega arith)
