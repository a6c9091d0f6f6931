use Rattle.std.proofs.Common.{ℕ}
use Rattle.sat_label.specs.Words.{below}
use Rattle.sat_act.specs.Deployed.{Deployed}
use Rattle.sat_settle.specs.Rounds.{bulks_by}
use Rattle.sat_settle.proofs.Loops.{Steps}
use Rattle.sat_settle.proofs.bulks.bulk_out.Given as goal

abbrev pub invariant-loop-gear : goal.invariant-loop-gear
invariant-loop-gear l = Steps (λ (d : Deployed) (i : ℕ). bulks_by d l.from i) l.initial.world (below l.gear) l.done l.world
