use Rattle.std.proofs.Common.{ap, refl, sym}
use Rattle.sat_durable.specs.Step.{fault_disk}
use Rattle.sat_process.proofs.Hearing.{moment_of, takes_of}
use Rattle.sat_process.proofs.Leaving.{on_disk_more, on_disk_still}
use Rattle.sat_process.proofs.process.Process.put_down.Goals as goal

pub returns-in-Err-clause-any_moment : goal.returns-in-Err-clause-any_moment
returns-in-Err-clause-any_moment g c = moment_of g.D.Disk.state g.M.Hosted.asked g.M.Hosted.took _ _ _ c.args.given _ _ c.self.view_is c.self.invariant.0 c.into_disk.ensures c.in-Ok.ensures.any_moment

pub invariant_of-process : goal.invariant_of-process
invariant_of-process g c =
    (on_disk_more g.M.Hosted.asked g.M.Hosted.took _ _ _ _ c.args.given _ _ c.self.invariant.0 c.in-Ok.ensures.keeps c.in_default.ensures.takes, c.self.invariant.1)

pub returns-in-Ok-clause-becomes : goal.returns-in-Ok-clause-becomes
returns-in-Ok-clause-becomes g c = takes_of g.D.Disk.state g.M.Hosted.asked g.M.Hosted.took _ _ c.args.given _ c.self.view_is c.in_default.ensures.takes

pub returns-in-Ok-clause-any_moment : goal.returns-in-Ok-clause-any_moment
returns-in-Ok-clause-any_moment g c = moment_of g.D.Disk.state g.M.Hosted.asked g.M.Hosted.took _ _ _ c.args.given _ _ c.self.view_is c.self.invariant.0 refl c.in-Ok.ensures.any_moment

pub returns-in-Err-Disk-clause-any_moment : goal.returns-in-Err-Disk-clause-any_moment
returns-in-Err-Disk-clause-any_moment g c = moment_of g.D.Disk.state g.M.Hosted.asked g.M.Hosted.took _ _ _ c.args.given _ _ c.self.view_is c.self.invariant.0 (sym (ap fault_disk c.in-Err-Disk.field-0-is)) c.in-Err-Disk.ensures.any_moment

pub invariant_of-process-in-Err-Memory : goal.invariant_of-process-in-Err-Memory
invariant_of-process-in-Err-Memory g c = (on_disk_still g.M.Hosted.asked g.M.Hosted.took _ _ _ _ _ c.self.invariant.0 (rw c.in-Err-Memory.field-0-is at c.in-Err-Memory.ensures.memory), c.self.invariant.1)

pub returns-clause-any_moment : goal.returns-clause-any_moment
returns-clause-any_moment g c = moment_of g.D.Disk.state g.M.Hosted.asked g.M.Hosted.took _ _ _ c.args.given _ _ c.self.view_is c.self.invariant.0 (sym (ap fault_disk c.in-Err-Memory.field-0-is)) c.in-Err-Memory.ensures.any_moment
