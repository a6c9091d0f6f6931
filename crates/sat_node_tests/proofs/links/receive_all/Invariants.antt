use Rattle.std.proofs.Common.{◌≡◌}
use Rattle.sat_node_tests.proofs.links.receive_all.Given as goal

abbrev pub invariant-loop : goal.invariant-loop
invariant-loop g l = l.output.wire ≡ l.fn.output.wire
