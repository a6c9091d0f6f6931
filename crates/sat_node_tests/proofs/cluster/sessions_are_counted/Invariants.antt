use Rattle.sat_node_tests.proofs.cluster.sessions_are_counted.Given as goal

-- the deployment and the wires that were just made
abbrev pub ghosts-one_comes_back-N-Laid : goal.ghosts-one_comes_back-N-Laid
ghosts-one_comes_back-N-Laid g a = record { deployment = a.d }

abbrev pub ghosts-one_comes_back-N-Names : goal.ghosts-one_comes_back-N-Names
ghosts-one_comes_back-N-Names g a = record { wires = a.wires.wires }
