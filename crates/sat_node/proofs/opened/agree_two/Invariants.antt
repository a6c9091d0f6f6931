use Rattle.std.proofs.Common.{◌≡◌, ◌<◌, ℕ}
use Rattle.sat_node.specs.Opened.{AgreeOut}
use Rattle.sat_node.proofs.opened.agree_two.Given as goal

abbrev pub invariant-loop-k : goal.invariant-loop-k
invariant-loop-k g l = (l.sender ≡ l.initial.sender) × (l.receiver ≡ l.initial.receiver) × ((x : ℕ) → x < l.k → AgreeOut g.M.Machine.meaning g.K.Machine.meaning l.initial.sender x l.initial.receiver)
