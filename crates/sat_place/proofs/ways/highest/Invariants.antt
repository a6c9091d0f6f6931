use Rattle.std.proofs.Common.{◌≡◌}
use Rattle.sat_place.specs.Ways.{highest}
use Rattle.sat_place.proofs.ways.highest.Given as goal

abbrev pub invariant-loop-hop : goal.invariant-loop-hop
invariant-loop-hop l = l.last ≡ highest l.near l.far l.hops l.hop-index
