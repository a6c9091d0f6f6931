use Rattle.std.proofs.Common.{◌≡◌, ◌<◌, ℕ, Some, slice_get}
use Rattle.sat_node.specs.Links.{HeldSeen}
use Rattle.sat_node.specs.Opened.{AgreeRow}
use Rattle.sat_node.proofs.opened.agree_all.Given as goal

abbrev pub invariant-loop-a : goal.invariant-loop-a
invariant-loop-a g l = (l.senders.items ≡ l.initial.senders.items) × (l.receivers.items ≡ l.initial.receivers.items) × ((x : ℕ) (s : HeldSeen g.row.M.Denot g.row.M-Input.Denot g.row.M-Answer.Denot) → x < l.a → slice_get l.initial.senders.items x ≡ Some s → AgreeRow g.M.Machine.meaning g.K.Machine.meaning s l.initial.receivers.items)
