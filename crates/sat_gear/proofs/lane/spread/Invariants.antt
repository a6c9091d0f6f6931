use Rattle.std.proofs.Common.{◌≡◌, ◌-◌, ◌<◌, map, length, true}
use Rattle.sat_label.specs.Words.{bit}
use Rattle.sat_queue.specs.Queued.{members_of}
use Rattle.sat_gear.specs.Lanes.{count_of, Spread}
use Rattle.sat_gear.proofs.Targets.{RoomFrom}
use Rattle.sat_gear.proofs.lane.spread.Given as goal

abbrev pub invariant-sites : goal.invariant-sites
invariant-sites l = record {
  size : length l.lanes ≡ length l.fn.lanes;
  lanes : Spread (bit l.targets.bits) l.place l.site (map members_of l.fn.lanes) (map members_of l.lanes);
  room : RoomFrom (bit l.targets.bits) l.site l.lanes;
  here : l.site < 64 → bit l.targets.bits l.site ≡ true;
  counted : l.counts ≡ map count_of (map members_of l.lanes);
}

abbrev pub decreases-sites : goal.decreases-sites
decreases-sites l = 64 - l.site
