use Rattle.std.proofs.Common.{[], ◌∷◌}
use Rattle.sat_node_tests.proofs.nodes.one_number_at_all_nodes.Given as goal

-- the wire of the link that was just made
abbrev pub ghosts-together : goal.ghosts-together
ghosts-together g a = record { wires = a.input.wire ∷ [] }
