use Rattle.std.proofs.Common.{◌≡◌, ◌++◌, ◌+◌, ℕ}
use Rattle.sat_label.specs.Words.{below}
use Rattle.sat_act.specs.Settling.{joined}
use Rattle.sat_act.specs.Settling.{hops_of}
use Rattle.sat_act.specs.Parts.{tree_of}
use Rattle.sat_settle.proofs.acts.add_hops.Given as goal

abbrev pub invariant-loop-place : goal.invariant-loop-place
invariant-loop-place l = l.acts ≡ l.initial.acts ++ joined (λ (n : ℕ). hops_of (n + 1) (tree_of l.d (n + 1))) (below l.place)
