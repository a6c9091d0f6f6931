use Rattle.sat_runs.proofs.acts.write_done.Goals as goal

pub returns-in-Ok-clause-written : goal.returns-in-Ok-clause-written
returns-in-Ok-clause-written c = rw c.in-Ok.is c.write_numbered.ensures.ok
