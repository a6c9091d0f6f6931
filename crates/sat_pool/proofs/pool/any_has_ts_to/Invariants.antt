use Rattle.std.proofs.Common.{◌≡◌, false, take}
use Rattle.sat_pool.specs.Pool.{has_ts_to}
use Rattle.sat_pool.proofs.pool.any_has_ts_to.Given as goal

abbrev pub invariant-loop-row : goal.invariant-loop-row
invariant-loop-row l = has_ts_to l.ts (record { rows = take l.row-index l.rows }) ≡ false
