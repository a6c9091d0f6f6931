use Rattle.std.proofs.Common.{[], ◌∷◌}
use Rattle.sat_node_tests.proofs.nodes.worn.Given as goal

-- the wire of the link that was just made
abbrev pub ghosts-worn_at_last : goal.ghosts-worn_at_last
ghosts-worn_at_last g a = record { wires = a.input.wire ∷ [] }
