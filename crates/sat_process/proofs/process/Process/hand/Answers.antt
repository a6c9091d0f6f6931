use Rattle.sat_process.proofs.Hearing.{settled_or}
use Rattle.sat_process.proofs.process.Process.hand.Goals as goal

pub returns-then-ne-clause-any_moment : goal.returns-then-ne-clause-any_moment
returns-then-ne-clause-any_moment g c = settled_or g.D.Disk.state g.M.Hosted.asked g.M.Hosted.took c.args.self c.args.given c.settled.ensures
