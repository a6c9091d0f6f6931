use Rattle.sat_process_tests.proofs.lossy.what_is_lost_doubled_and_out_of_order_comes_at_last.Given as goal

-- the deployment that was just made
abbrev pub ghosts-run : goal.ghosts-run
ghosts-run g a = record { deployment = a.d.now }
