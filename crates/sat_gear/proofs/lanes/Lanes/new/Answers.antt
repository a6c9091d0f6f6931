use Rattle.std.proofs.Common.{ℕ, List, length, map, subst, sym}
use Rattle.sat_queue.specs.Queued.{members_of}
use Rattle.sat_gear.specs.Lanes.{AllBelow}
use Rattle.sat_gear.proofs.Spreads.{new-lanes, none_below}
use Rattle.sat_gear.proofs.Targets.{no-counts}
use Rattle.sat_gear.proofs.lanes.Lanes.new.Goals as goal

pub returns : goal.returns
returns c = new-lanes c.new.result.items (map members_of c.in_ok-lanes.lanes.items) c.args.sites c.new.ensures.items c.in_ok-lanes.ensures

pub invariant_of-result : goal.invariant_of-result
invariant_of-result c = record {
  below = subst (λ (ls : List (List ℕ)). AllBelow (length c.new.result.items) ls) (sym c.in_ok-lanes.ensures) (none_below _ c.args.sites);
  counted = no-counts (map members_of c.in_ok-lanes.lanes.items) c.in_ok-counts.counts.items c.args.sites c.in_ok-lanes.ensures (c.in_ok-counts.ensures.items_if_clones_equal (λ y same. same));
}
