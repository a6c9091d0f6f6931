use Rattle.std.proofs.Common.{◌≡◌, ◌≤◌, ◌*◌, take, sum_by}
use Rattle.sat_place.specs.Ways.{hop_span}
use Rattle.sat_place.proofs.known.hops_span.Given as goal

abbrev pub invariant-loop-hop : goal.invariant-loop-hop
invariant-loop-hop l = (l.total ≡ sum_by (hop_span l.d l.places) (take l.hop-index l.hops)) × (l.total ≤ 100000 * l.hop-index)
