use Rattle.std.proofs.Common.{◌≡◌, ◌++◌, ◌∷◌, [], map, take, length}
use Rattle.std.specs.List.{AllWithin}
use Rattle.sat_queue.specs.Queued.{members_of}
use Rattle.sat_serial.specs.Hits.{changed_at, HasRoomAt}
use Rattle.sat_serial.proofs.router.push_at.Given as goal

abbrev pub invariant-loop-place : goal.invariant-loop-place
invariant-loop-place l = record {
  size : length l.outboxes ≡ length l.initial.outboxes;
  labels : map members_of l.outboxes ≡ changed_at (λ box. box ++ l.label ∷ []) (take l.place-index l.places) (map members_of l.initial.outboxes);
  room : AllWithin (HasRoomAt l.outboxes) l.places l.place-index (length l.places);
}
