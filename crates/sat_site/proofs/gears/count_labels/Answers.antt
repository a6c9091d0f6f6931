use Rattle.std.proofs.Common.{arith}
use Rattle.sat_site.proofs.Loops.{too-many}
use Rattle.sat_site.proofs.gears.count_labels.Goals as goal

pub returns-in_err-count : goal.returns-in_err-count
returns-in_err-count c =
    rw c.from_residual.ensures (too-many c.args.gears.now c.loop-gear.gear-index c.gear-item.result c.loop-gear.count c.fresh.result.now (omega arith) c.gear-item.is c.loop-gear.invariant c.fresh.ensures c.in_err-count.ensures)
