use Rattle.std.proofs.Common.{◌≡◌, ◌<◌, ℕ}
use Rattle.sat_node.specs.Opened.{AgreeEnds}
use Rattle.sat_node.proofs.opened.agree_out.Given as goal

abbrev pub invariant-loop-j : goal.invariant-loop-j
invariant-loop-j g l = (l.sender ≡ l.initial.sender) × (l.receiver ≡ l.initial.receiver) × ((x : ℕ) → x < l.j → AgreeEnds g.M.Machine.meaning g.K.Machine.meaning l.initial.sender l.out l.initial.receiver x)
