use Rattle.sat_label.specs.declared.label.Label.{Label}
use Rattle.std.proofs.Common.{ℕ, ◌≡◌, ◌+◌, ◌<◌, ◌≤◌, length, map, get_or}
use Rattle.sat_bulk.specs.declared.Drained.{Drained}
use Rattle.sat_queue.specs.Queued.{Queued, members_of}
use Rattle.sat_sink.proofs.queue.reserve_all.Given as goal

abbrev pub invariant-loop-gear : goal.invariant-loop-gear
invariant-loop-gear l = record {
  labels : map members_of l.queues ≡ map members_of l.initial.queues;
  room : (g : ℕ) (q : Queued Label) (d : Drained) → g < l.gear → length (get_or l.queues g q).members + length (get_or l.drained g d).labels ≤ (get_or l.queues g q).room;
}
