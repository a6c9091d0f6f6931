use Rattle.std.proofs.Common.{◌≡◌, map, take}
use Rattle.sat_queue.specs.Queued.{members_of}
use Rattle.sat_sink.specs.Pending.{HaveRoomFrom, joined, labels_of}
use Rattle.sat_sink.proofs.queue.extend_all.Given as goal

abbrev pub invariant-loop-gear : goal.invariant-loop-gear
invariant-loop-gear l = record {
  labels : map members_of l.queues ≡ joined (map members_of l.initial.queues) (map labels_of (take l.gear l.drained));
  room : HaveRoomFrom l.gear l.queues l.drained;
}
