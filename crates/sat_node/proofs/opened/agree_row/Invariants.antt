use Rattle.std.proofs.Common.{◌≡◌, ◌<◌, ℕ, Some, slice_get, vec_capacity}
use Rattle.sat_node.specs.Links.{HeldSeen}
use Rattle.sat_node.specs.Opened.{AgreeNodes}
use Rattle.sat_node.proofs.opened.agree_row.Given as goal

abbrev pub invariant-loop-b : goal.invariant-loop-b
invariant-loop-b g l = (l.sender ≡ l.initial.sender) × (l.receivers.items ≡ l.initial.receivers.items) × (vec_capacity l.receivers ≡ vec_capacity l.initial.receivers) × ((x : ℕ) (r : HeldSeen g.row.K.Denot g.row.K-Input.Denot g.row.K-Answer.Denot) → x < l.b → slice_get l.initial.receivers.items x ≡ Some r → AgreeNodes g.M.Machine.meaning g.K.Machine.meaning l.initial.sender r)
