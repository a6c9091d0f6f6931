use Rattle.std.proofs.Common.{◌≡◌, ◌<◌, ℕ, Some, slice_get}
use Rattle.sat_host_laws.specs.Messages.{HostSeen, IsKept}
use Rattle.sat_host.proofs.making.look_all.Given as goal

abbrev pub invariant-loop-host : goal.invariant-loop-host
invariant-loop-host g l = (x : ℕ) (h : HostSeen g.row.M.Denot g.row.M-Input.Denot g.row.M-Answer.Denot) → x < l.host-index → slice_get l.fn.hosts x ≡ Some h → IsKept g.M.Machine.meaning h
