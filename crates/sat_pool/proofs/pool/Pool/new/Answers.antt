use Rattle.sat_pool.proofs.Pools.{none_kept}
use Rattle.sat_pool.proofs.pool.Pool.new.Goals as goal

pub invariant_of-result : goal.invariant_of-result
invariant_of-result c = none_kept c.args.sites c.in_ok-rows.rows.items c.in_ok-rows.ensures
