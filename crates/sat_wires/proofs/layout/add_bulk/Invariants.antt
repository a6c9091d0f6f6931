use Rattle.std.proofs.Common.{◌≡◌, ◌++◌}
use Rattle.sat_wires.specs.Ways.{bulk_links}
use Rattle.sat_wires.proofs.layout.add_bulk.Given as goal

abbrev pub invariant-loop-number : goal.invariant-loop-number
invariant-loop-number l = l.ways ≡ l.initial.ways ++ bulk_links l.site l.number
