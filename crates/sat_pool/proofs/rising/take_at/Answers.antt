use Rattle.std.proofs.Common.{arith}
use Rattle.sat_pool.proofs.Places.{removed_left, removed_there}
use Rattle.sat_pool.proofs.rising.take_at.Goals as goal

pub returns-clause-found : goal.returns-clause-found
returns-clause-found c = removed_there c.args.waiting.now.items c.args.place c.args.waiting.now.len c.remove.result (omega arith) c.requires c.remove.ensures.variant c.remove.ensures.value

pub returns-clause-new : goal.returns-clause-new
returns-clause-new c = removed_left c.args.waiting.now.items _ c.args.place c.args.waiting.now.len c.remove.result (omega arith) c.requires c.remove.ensures.variant c.remove.ensures.items
