use Rattle.std.proofs.Common.{◌≡◌, ◌<◌, ℕ, Some, slice_get}
use Rattle.sat_host_laws.specs.Messages.{IsKept}
use Rattle.sat_process.specs.Processes.{ProcessSeen}
use Rattle.sat_process.proofs.storing.look_all.Given as goal

abbrev pub invariant-loop-process : goal.invariant-loop-process
invariant-loop-process g l = (k : ℕ) (x : ProcessSeen g.row.D.Denot g.row.T.Denot g.row.M.Denot g.row.M-Input.Denot g.row.M-Answer.Denot) → k < l.process-index → slice_get l.fn.processes k ≡ Some x → IsKept g.M.Machine.meaning x.host
