use Rattle.sat_process.proofs.Hearing.{heard_cursors, leaves_then}
use Rattle.sat_process.proofs.Saying.{each_after, said_after}
use Rattle.sat_process.proofs.process.Process.turn.Goals as goal

pub returns-in-Ok-clause-any_moment : goal.returns-in-Ok-clause-any_moment
returns-in-Ok-clause-any_moment g c =
    leaves_then g.D.Disk.state g.M.Hosted.asked g.M.Hosted.took g.T.Transport.came g.M.Hosted.would c.args.self.host (g.T.Transport.came c.args.self.transport) (g.D.Disk.state c.args.self.disk) c.in-Ok.process c.spoken-process.result.0 c.in-Ok.ensures.any_moment c.spoken-process.ensures.came
    c.spoken-process.ensures.same

pub returns-in-Ok-clause-says : goal.returns-in-Ok-clause-says
returns-in-Ok-clause-says g c = λ is. each_after g.M.Machine.meaning.puts g.T.Transport.sent g.T.Transport.came c.args.most g.M.Hosted.link_count c.args.self.host.cursors (g.T.Transport.sent c.args.self.transport) c.in-Ok.process c.spoken-process.result.0
    (heard_cursors g.D.Disk.state g.M.Hosted.asked g.M.Hosted.took g.T.Transport.came g.M.Hosted.would c.in-Ok.heard c.args.self.size (g.T.Transport.came c.args.self.transport) (g.T.Transport.came c.in-Ok.process.transport) c.args.self.host c.in-Ok.process.host c.in-Ok.ensures.hears)
    c.in-Ok.ensures.sent c.spoken-process.ensures.same (c.spoken-process.ensures.says is)

pub returns-in-Ok-clause-said : goal.returns-in-Ok-clause-said
returns-in-Ok-clause-said g c = said_after g.M.Machine.meaning.puts g.T.Transport.sent g.T.Transport.came _ c.in-Ok.process c.spoken-process.result.0 c.in-Ok.ensures.sent c.spoken-process.ensures.said c.spoken-process.ensures.same
