use Rattle.std.proofs.Common.{◌≡◌, map, take}
use Rattle.sat_gear.specs.Gear.{drained_of}
use Rattle.sat_queue.specs.Queued.{members_of}
use Rattle.sat_sink.specs.Pending.{HaveRoomFrom, joined, labels_of}
use Rattle.sat_sink.proofs.queue.extend_from.Given as goal

abbrev pub invariant-loop-place : goal.invariant-loop-place
invariant-loop-place l = record {
  labels : map members_of l.queues ≡ joined (map members_of l.initial.queues) (map labels_of (take l.place (map drained_of l.gears)));
  room : HaveRoomFrom l.place l.queues (map drained_of l.gears);
}
