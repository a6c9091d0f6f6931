use Rattle.sat_node_tests.proofs.parts.a_write_goes_through_hubs_and_gears.Given as goal

-- the deployment that was just made
abbrev pub ghosts-way : goal.ghosts-way
ghosts-way g a = record { deployment = a.d.now }
