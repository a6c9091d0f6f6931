use Rattle.sat_process.proofs.Hearing.{settled_or}
use Rattle.sat_process.proofs.process.Process.act.Goals as goal

pub returns-in_default-clause-any_moment : goal.returns-in_default-clause-any_moment
returns-in_default-clause-any_moment g c = settled_or g.D.Disk.state g.M.Hosted.asked g.M.Hosted.took c.args.self _ c.settled.ensures
