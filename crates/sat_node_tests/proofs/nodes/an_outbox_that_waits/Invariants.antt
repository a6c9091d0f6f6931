use Rattle.std.proofs.Common.{[], ◌∷◌}
use Rattle.sat_node_tests.proofs.nodes.an_outbox_that_waits.Given as goal

-- the wire of the link that was just made
abbrev pub ghosts-all_kinds : goal.ghosts-all_kinds
ghosts-all_kinds g a = record { wires = a.input.wire ∷ [] }
