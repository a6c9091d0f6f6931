use Rattle.std.proofs.Common.{◌≡◌, ◌<◌, ℕ, Some, slice_get}
use Rattle.sat_node.specs.Links.{HeldSeen}
use Rattle.sat_opened.specs.Opened.{IsOpened}
use Rattle.sat_finish.proofs.nodes.look_all.Given as goal

abbrev pub invariant-loop-node : goal.invariant-loop-node
invariant-loop-node g l = (x : ℕ) (h : HeldSeen g.row.M.Denot g.row.M-Input.Denot g.row.M-Answer.Denot) → x < l.node-index → slice_get l.fn.nodes x ≡ Some h → IsOpened g.M.Machine.meaning h
