use Rattle.sat_live.proofs.launch.live_over.Given as goal

-- the deployment and the wires that were just made
abbrev pub ghosts-come-N-Laid : goal.ghosts-come-N-Laid
ghosts-come-N-Laid g a = record { deployment = a.d }

abbrev pub ghosts-come-N-Names : goal.ghosts-come-N-Names
ghosts-come-N-Names g a = record { wires = a.wires.wires }
