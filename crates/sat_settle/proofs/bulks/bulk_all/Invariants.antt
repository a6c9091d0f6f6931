use Rattle.std.proofs.Common.{ℕ}
use Rattle.sat_label.specs.Words.{below}
use Rattle.sat_act.specs.Deployed.{Deployed}
use Rattle.sat_settle.specs.Rounds.{bulks_out}
use Rattle.sat_settle.proofs.Loops.{Steps}
use Rattle.sat_settle.proofs.bulks.bulk_all.Given as goal

abbrev pub invariant-loop-site : goal.invariant-loop-site
invariant-loop-site l = Steps (λ (d : Deployed) (i : ℕ). bulks_out d i) l.initial.world (below l.site) l.done l.world
