use Rattle.std.proofs.Common.{[], ◌∷◌}
use Rattle.sat_node_tests.proofs.nodes.labels_through_two_threads.Given as goal

-- the wire of the link that was just made
abbrev pub ghosts-two_nodes : goal.ghosts-two_nodes
ghosts-two_nodes g a = record { wires = a.input.wire ∷ [] }
