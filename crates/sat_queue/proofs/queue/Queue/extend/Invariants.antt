use Rattle.std.proofs.Common.{◌≡◌, ◌++◌, ◌+◌, ◌-◌, ◌≤◌, length, take}
use Rattle.std.specs.VecDeque.{deque_capacity}
use Rattle.sat_queue.proofs.queue.Queue.extend.Given as goal

abbrev pub invariant-loop-member : goal.invariant-loop-member
invariant-loop-member g l = record {
  members : l.self-inside.members.items ≡ l.initial.self-inside.members.items ++ take l.member-index l.more;
  room : length l.self-inside.members.items + (length l.more - l.member-index) ≤ deque_capacity l.self-inside.members;
}
