use Rattle.sat_process.proofs.Leaving.{left_kept}
use Rattle.sat_process.proofs.starting.recover_from.Goals as goal

pub returns-then-number-many-clause-any_moment : goal.returns-then-number-many-clause-any_moment
returns-then-number-many-clause-any_moment g c = left_kept g.D.Disk.state _ _ c.into_disk-disk.ensures (g.met.D.Disk.only_now _)

pub returns-in-Err-clause-any_moment : goal.returns-in-Err-clause-any_moment
returns-in-Err-clause-any_moment g c = left_kept g.D.Disk.state _ _ c.into_disk-disk.ensures (g.met.D.Disk.only_now _)
