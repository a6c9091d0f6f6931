use Rattle.std.proofs.Common.{arith, ◌<◌, length}
use Rattle.sat_pool.proofs.Pools.{stays_kept, taken_kept}
use Rattle.sat_pool.proofs.pool.Pool.take.Goals as goal

pub invariant_of-self : goal.invariant_of-self
invariant_of-self c =
    let within : c.args.point.now.site < length c.self.inside.rows.items = omega (arith, c.len.ensures, c.if-point-len.false) in
    stays_kept c.self.inside.rows.items c.self.inside.count c.args.point.now c.index_mut-row.result.now c.remove.new.self c.self.invariant within c.index_mut-row.ensures.value c.in_err-taken.ensures.new c.in_err-taken.ensures.found

pub invariant_of-self-2 : goal.invariant_of-self-2
invariant_of-self-2 c =
    let within : c.args.point.now.site < length c.self.inside.rows.items = omega (arith, c.len.ensures, c.if-point-len.false) in
    taken_kept c.self.inside.rows.items c.self.inside.count c.args.point.now c.index_mut-row.result.now c.remove.new.self c.in_ok-taken.taken c.self.invariant within c.index_mut-row.ensures.value c.in_ok-taken.ensures.new c.in_ok-taken.ensures.found
