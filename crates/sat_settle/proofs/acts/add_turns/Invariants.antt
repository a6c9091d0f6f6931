use Rattle.std.proofs.Common.{◌≡◌, ◌++◌, ℕ}
use Rattle.sat_label.specs.Words.{below}
use Rattle.sat_act.specs.Settling.{joined}
use Rattle.sat_settle.specs.RoundActs.{turns_of}
use Rattle.sat_settle.proofs.acts.add_turns.Given as goal

abbrev pub invariant-loop-site : goal.invariant-loop-site
invariant-loop-site l = l.acts ≡ l.initial.acts ++ joined (λ (j : ℕ). turns_of j) (below l.site)
