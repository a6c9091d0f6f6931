use Rattle.std.proofs.Common.{arith}
use Rattle.sat_pool.proofs.Places.{copied_at}
use Rattle.sat_pool.proofs.rising.payload_at.Goals as goal

pub returns : goal.returns
returns c = copied_at c.args.waiting.now.items c.args.place c.args.waiting.now.len c.get.result (omega arith) c.get.ensures.variant c.get.ensures.lookup
