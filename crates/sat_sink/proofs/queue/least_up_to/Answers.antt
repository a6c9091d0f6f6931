use Rattle.sat_sink.proofs.Finding.{found_start}
use Rattle.sat_sink.proofs.queue.least_up_to.Goals as goal

pub loop-place-init : goal.loop-place-init
loop-place-init c = found_start c.args.ts c.args.queues.now

pub loop-place-preserved : goal.loop-place-preserved
loop-place-preserved c = c.with_queue-found.ensures c.args.queues.now c.loop-place-test.true c.index-queues-place.is c.requires.rise c.requires.order c.loop-place.invariant
