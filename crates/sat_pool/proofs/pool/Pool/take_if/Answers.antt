use Rattle.std.proofs.Common.{arith, ◌<◌, length}
use Rattle.sat_pool.proofs.Pools.{label_taken_kept, label_waits}
use Rattle.sat_pool.proofs.pool.Pool.take_if.Goals as goal

pub overflow_sub-self : goal.overflow_sub-self
overflow_sub-self c =
    let within : c.args.label.now.point.site < length c.self.inside.rows.items = omega (arith, c.len.ensures, c.if-label-len.false) in
    label_waits c.self.inside.rows.items c.self.inside.count c.args.label.now c.index_mut-row.result.now c.take_if.new.self c.in_ok-taken.taken c.self.invariant within c.index_mut-row.ensures.value c.in_ok-taken.ensures.new c.in_ok-taken.ensures.found

pub invariant_of-self-2 : goal.invariant_of-self-2
invariant_of-self-2 c =
    let within : c.args.label.now.point.site < length c.self.inside.rows.items = omega (arith, c.len.ensures, c.if-label-len.false) in
    label_taken_kept c.self.inside.rows.items c.self.inside.count c.args.label.now c.index_mut-row.result.now c.take_if.new.self c.in_ok-taken.taken c.self.invariant within c.index_mut-row.ensures.value c.in_ok-taken.ensures.new c.in_ok-taken.ensures.found
