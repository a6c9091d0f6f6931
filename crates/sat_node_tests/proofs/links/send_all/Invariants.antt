use Rattle.std.proofs.Common.{◌≡◌}
use Rattle.sat_node_tests.proofs.links.send_all.Given as goal

abbrev pub invariant-loop : goal.invariant-loop
invariant-loop g l = l.input.wire ≡ l.fn.input.wire
