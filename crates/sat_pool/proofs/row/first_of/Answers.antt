use Rattle.std.proofs.Common.{[]}
use Rattle.sat_pool.proofs.Parts.{first_start}
use Rattle.sat_pool.proofs.row.first_of.Goals as goal

pub loop-queue-init : goal.loop-queue-init
loop-queue-init c = first_start c.args.others.now [] _ c.first-least.ensures.first c.first-least.ensures.ascends
