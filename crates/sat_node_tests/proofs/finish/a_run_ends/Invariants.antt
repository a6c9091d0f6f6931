use Rattle.sat_node_tests.proofs.finish.a_run_ends.Given as goal

-- the deployment and the wires that were just made
abbrev pub ghosts-end-N-Laid : goal.ghosts-end-N-Laid
ghosts-end-N-Laid g a = record { deployment = a.d.now }

abbrev pub ghosts-end-N-Names : goal.ghosts-end-N-Names
ghosts-end-N-Names g a = record { wires = a.wires.wires }
