use Rattle.sat_label.specs.declared.label.Label.{Label}
use Rattle.std.proofs.Common.{ℕ, ◌≡◌, ◌+◌, ◌<◌, ◌≤◌, length, map, get_or}
use Rattle.sat_bulk.specs.declared.Drained.{Drained}
use Rattle.sat_gear.specs.Gear.{drained_of}
use Rattle.sat_queue.specs.Queued.{Queued, members_of}
use Rattle.sat_sink.proofs.queue.reserve_from.Given as goal

abbrev pub invariant-loop-place : goal.invariant-loop-place
invariant-loop-place l = record {
  labels : map members_of l.queues ≡ map members_of l.initial.queues;
  room : (g : ℕ) (q : Queued Label) (d : Drained) → g < l.place → length (get_or l.queues g q).members + length (get_or (map drained_of l.gears) g d).labels ≤ (get_or l.queues g q).room;
}
