use Rattle.std.proofs.Common.{◌≡◌, ◌-◌, map}
use Rattle.sat_label.specs.Words.{bit}
use Rattle.sat_queue.specs.Queued.{members_of}
use Rattle.sat_gear.specs.Lanes.{HaveRoomWhere}
use Rattle.sat_gear.proofs.lane.reserve_where.Given as goal

abbrev pub invariant-sites : goal.invariant-sites
invariant-sites l = record {
  members : map members_of l.lanes ≡ map members_of l.fn.lanes;
  room : HaveRoomWhere (bit l.targets.bits) l.site l.lanes;
}

abbrev pub decreases-sites : goal.decreases-sites
decreases-sites l = 64 - l.site
