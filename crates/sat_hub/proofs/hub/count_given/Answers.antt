use Rattle.std.proofs.Common.{arith}
use Rattle.sat_hub.proofs.Gathering.{too-many}
use Rattle.sat_hub.proofs.hub.count_given.Goals as goal

pub returns-in_err-count : goal.returns-in_err-count
returns-in_err-count c =
    rw c.from_residual.ensures (too-many c.args.drained.now c.loop-given.given-index c.given-item.result c.loop-given.count c.as_slice.result.now (omega arith) c.given-item.is c.loop-given.invariant c.as_slice.ensures c.in_err-count.ensures)
