use Rattle.std.proofs.Common.{◌≡◌}
use Rattle.sat_place.specs.Ways.{hops_below}
use Rattle.sat_place.proofs.ways.hops_of.Given as goal

abbrev pub invariant-loop-edge : goal.invariant-loop-edge
invariant-loop-edge l = l.hops ≡ hops_below l.tree l.from l.to l.edge-index
