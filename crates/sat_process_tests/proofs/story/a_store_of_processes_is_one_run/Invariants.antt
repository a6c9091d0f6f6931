use Rattle.sat_process_tests.proofs.story.a_store_of_processes_is_one_run.Given as goal

-- the deployment that was just made
abbrev pub ghosts-run : goal.ghosts-run
ghosts-run g a = record { deployment = a.d.now }
