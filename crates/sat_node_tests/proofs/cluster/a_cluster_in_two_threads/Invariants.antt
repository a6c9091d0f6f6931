use Rattle.sat_node_tests.proofs.cluster.a_cluster_in_two_threads.Given as goal

-- the deployment and the wires that were just made
abbrev pub ghosts-running-N-Laid : goal.ghosts-running-N-Laid
ghosts-running-N-Laid g a = record { deployment = a.d }

abbrev pub ghosts-running-N-Names : goal.ghosts-running-N-Names
ghosts-running-N-Names g a = record { wires = a.wires.wires }
