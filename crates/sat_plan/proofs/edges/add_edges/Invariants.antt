use Rattle.std.proofs.Common.{◌≡◌, ◌++◌, map, take}
use Rattle.sat_plan.specs.Config.{edge_of}
use Rattle.sat_plan.proofs.edges.add_edges.Given as goal

abbrev pub invariant-loop-to : goal.invariant-loop-to
invariant-loop-to l = l.edges.items ≡ l.initial.edges.items ++ map (edge_of l.from) (take l.to-index l.to-items)
