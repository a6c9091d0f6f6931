use Rattle.sat_process.proofs.Leaving.{left_fault, left_twice}
use Rattle.sat_process.proofs.starting.recover.Goals as goal

pub returns-in-Ok-read-clause-any_moment : goal.returns-in-Ok-read-clause-any_moment
returns-in-Ok-read-clause-any_moment g c = left_twice _ _ _ c.in-Ok-read.ensures.any_moment c.recover_from.ensures.any_moment

pub returns-in-Err-clause-any_moment : goal.returns-in-Err-clause-any_moment
returns-in-Err-clause-any_moment g c = left_fault g.D.Disk.state _ _ _ _ _ c.fault_of.ensures c.in-Err.ensures.any_moment
