use Rattle.std.specs.Prelude.{◌≡◌, reverse}
use Rattle.sat_verdict.specs.Found.{first_miss}
use Rattle.sat_verdict.specs.Tables.{told}
use Rattle.sat_verdict.proofs.reads.judge_reads.Given as goal

abbrev pub invariant-loop-place : goal.invariant-loop-place
invariant-loop-place l = l.fresh ≡ first_miss (reverse l.tales) (told l.tales l.place)
