use Rattle.sat_sink.specs.Found.{IsFound}
use Rattle.sat_sink.proofs.queue.least_up_to.Given as goal

abbrev pub invariant-loop-place : goal.invariant-loop-place
invariant-loop-place l = IsFound l.ts l.queues l.place l.found
