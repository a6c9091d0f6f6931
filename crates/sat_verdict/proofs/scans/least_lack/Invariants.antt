use Rattle.std.specs.Prelude.{◌≡◌}
use Rattle.sat_verdict.specs.Tables.{scan, table_lacks}
use Rattle.sat_verdict.proofs.scans.least_lack.Given as goal

abbrev pub invariant-loop-place : goal.invariant-loop-place
invariant-loop-place l = l.least ≡ scan (table_lacks l.rows l.unshown l.numbers l.tales l.made l.site) l.place
