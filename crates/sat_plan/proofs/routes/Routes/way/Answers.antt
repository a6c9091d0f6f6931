use Rattle.std.proofs.Common.{arith}
use Rattle.sat_plan.proofs.Short.{legs_short}
use Rattle.sat_plan.proofs.routes.Routes.way.Goals as goal

pub overflow_add-total : goal.overflow_add-total
overflow_add-total c =
    let most = legs_short c.args.self.now c.args.delays.now c.args.from c.args.to c.loop-e.e c.requires.short c.requires.prompt (omega arith) in
    omega arith
