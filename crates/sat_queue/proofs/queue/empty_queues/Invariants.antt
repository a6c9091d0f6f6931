use Rattle.std.proofs.Common.{◌≡◌, map, replicate, []}
use Rattle.sat_queue.specs.Queued.{members_of}
use Rattle.sat_queue.proofs.queue.empty_queues.Given as goal

abbrev pub invariant-queues : goal.invariant-queues
invariant-queues g l = map members_of l.queues.items ≡ replicate l.counter []
