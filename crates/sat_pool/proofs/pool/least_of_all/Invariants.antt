use Rattle.std.proofs.Common.{◌≡◌, take}
use Rattle.sat_pool.specs.Pool.{least_before}
use Rattle.sat_pool.proofs.pool.least_of_all.Given as goal

abbrev pub invariant-loop-row : goal.invariant-loop-row
invariant-loop-row l = l.least ≡ least_before l.closes (record { rows = take l.row-index l.rows })
