use Rattle.std.proofs.Common.{◌≡◌, ◌++◌, map, take}
use Rattle.sat_label.specs.Least.{least_label}
use Rattle.sat_pool.specs.Pool.{labelled}
use Rattle.sat_pool.specs.Rows.{flat}
use Rattle.sat_pool.proofs.Parts.{every}
use Rattle.sat_pool.proofs.row.first_of.Given as goal

abbrev pub invariant-loop-queue : goal.invariant-loop-queue
invariant-loop-queue l = l.least ≡ least_label every (map labelled (l.others ++ flat (take l.queue-index l.rising)))
