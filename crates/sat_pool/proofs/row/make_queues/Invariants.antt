use Rattle.sat_pool.specs.Rows.{SameQueues}
use Rattle.sat_pool.proofs.row.make_queues.Given as goal

abbrev pub invariant-queues : goal.invariant-queues
invariant-queues l = SameQueues l.initial.rising.items l.rising.items
