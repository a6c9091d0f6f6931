use Rattle.std.proofs.Common.{arith}
use Rattle.sat_plan.proofs.Short.{total_short}
use Rattle.sat_plan.proofs.measure.total.Goals as goal

pub overflow_add-total : goal.overflow_add-total
overflow_add-total c =
    let most = total_short c.args.d.now c.args.routes.now c.args.delays.now c.args.pairs.now c.loop-pair.pair-index c.requires.limits c.requires.short c.requires.prompt c.requires.few in
    let few = c.pair_cost-total.ensures.few in
    omega arith
