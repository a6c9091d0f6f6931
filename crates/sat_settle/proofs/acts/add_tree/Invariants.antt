use Rattle.std.proofs.Common.{◌≡◌, ◌++◌, ℕ}
use Rattle.sat_label.specs.Words.{below}
use Rattle.sat_act.specs.Settling.{joined}
use Rattle.sat_settle.specs.RoundActs.{hops_to}
use Rattle.sat_settle.proofs.acts.add_tree.Given as goal

abbrev pub invariant-loop-to : goal.invariant-loop-to
invariant-loop-to l = l.acts ≡ l.initial.acts ++ joined (λ (z : ℕ). hops_to l.epoch l.tree z) (below l.to)
