use Rattle.std.proofs.Common.{◌≡◌, ◌<◌, ℕ, Some, slice_get}
use Rattle.std.specs.List.{remove}
use Rattle.sat_node.specs.Links.{HeldSeen}
use Rattle.sat_node.specs.Opened.{AgreeRow}
use Rattle.sat_node.proofs.opened.agree_within.Given as goal

abbrev pub invariant-loop-a : goal.invariant-loop-a
invariant-loop-a g l = (l.nodes.items ≡ l.initial.nodes.items) × ((x : ℕ) (s : HeldSeen g.row.M.Denot g.row.M-Input.Denot g.row.M-Answer.Denot) → x < l.a → slice_get l.initial.nodes.items x ≡ Some s → AgreeRow g.M.Machine.meaning g.M.Machine.meaning s (remove l.initial.nodes.items x))
