use Rattle.std.proofs.Common.{◌≡◌, map, take}
use Rattle.sat_label.specs.Words.{bit}
use Rattle.sat_queue.specs.Queued.{members_of}
use Rattle.sat_gear.specs.Lanes.{numbers_where}
use Rattle.sat_gear.proofs.lane.numbers.Given as goal

abbrev pub invariant-loop-site : goal.invariant-loop-site
invariant-loop-site l = l.numbers ≡ numbers_where (bit l.targets.bits) 0 (map members_of (take l.site l.lanes))
