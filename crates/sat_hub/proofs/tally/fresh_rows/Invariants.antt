use Rattle.std.proofs.Common.{◌≡◌, replicate, []}
use Rattle.sat_hub.proofs.tally.fresh_rows.Given as goal

abbrev pub invariant-gears : goal.invariant-gears
invariant-gears l = l.rows.items ≡ replicate l.counter []
