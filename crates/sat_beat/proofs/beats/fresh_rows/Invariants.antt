use Rattle.std.proofs.Common.{◌≡◌, replicate}
use Rattle.sat_beat.specs.Beats.{none_taken}
use Rattle.sat_beat.proofs.beats.fresh_rows.Given as goal

abbrev pub invariant-rows : goal.invariant-rows
invariant-rows l = l.rows.items ≡ replicate l.counter none_taken
