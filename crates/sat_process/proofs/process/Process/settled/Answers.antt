use Rattle.sat_process.proofs.Hearing.{settled_of}
use Rattle.sat_process.proofs.Leaving.{stays_of}
use Rattle.sat_process.proofs.process.Process.settled.Goals as goal

pub returns : goal.returns
returns g c =
    settled_of g.D.Disk.state g.M.Hosted.asked g.M.Hosted.took _ _ c.self.view_is
    (stays_of g.M.Hosted.asked g.M.Hosted.took _ _ _ (g.met.D.Disk.only_now _) c.self.invariant.0)
