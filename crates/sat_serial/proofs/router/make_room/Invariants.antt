use Rattle.std.proofs.Common.{◌≡◌, map, take, length}
use Rattle.std.specs.List.{All}
use Rattle.sat_queue.specs.Queued.{members_of}
use Rattle.sat_serial.specs.Hits.{HasRoomAt}
use Rattle.sat_serial.proofs.router.make_room.Given as goal

abbrev pub invariant-loop-place : goal.invariant-loop-place
invariant-loop-place l = record {
  size : length l.outboxes ≡ length l.initial.outboxes;
  members : map members_of l.outboxes ≡ map members_of l.initial.outboxes;
  room : All (HasRoomAt l.outboxes) (take l.place-index l.places);
}
