use Rattle.std.specs.Prelude.{◌≡◌}
use Rattle.sat_verdict.specs.Tables.{scan}
use Rattle.sat_verdict.specs.Passes.{table_misses}
use Rattle.sat_verdict.proofs.reads.least_miss.Given as goal

abbrev pub invariant-loop-at : goal.invariant-loop-at
invariant-loop-at l = l.least ≡ scan (table_misses l.tales l.numbers l.rows l.place l.item l.read) l.at
