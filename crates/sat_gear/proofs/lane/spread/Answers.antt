use Rattle.std.proofs.Common.{◌+◌, length, map, refl, sym, ◌∙◌, arith}
use Rattle.std.proofs.lemmas.List.{length-map, length-set}
use Rattle.sat_label.specs.Words.{bit}
use Rattle.sat_queue.specs.Queued.{members_of}
use Rattle.sat_gear.proofs.Spreads.{spread-more}
use Rattle.sat_gear.proofs.Targets.{counted-more, room-on, spread-end, spread-none, spread-skip}
use Rattle.sat_gear.proofs.lane.spread.Goals as goal

pub sites-init : goal.sites-init
sites-init c = record {
  size = refl;
  lanes = spread-skip (bit c.args.targets.bits) c.args.place 0 c.site_from-site.result (map members_of c.args.lanes.now) (map members_of c.args.lanes.now) (omega arith) c.site_from-site.ensures.passed (spread-none (bit c.args.targets.bits) c.args.place (map members_of c.args.lanes.now));
  room = λ k d low high passes. c.requires.room k d high high passes;
  here = c.site_from-site.ensures.here;
  counted = c.requires.counted;
}

pub sites-preserved : goal.sites-preserved
sites-preserved c = record {
  size = length-set c.sites.lanes c.sites.site c.push.new.self ∙ c.sites.invariant.size;
  lanes = spread-skip (bit c.args.targets.bits) c.args.place (c.sites.site + 1) c.site_from-site-in-sites.result (map members_of c.args.lanes.now) _ c.site_from-site-in-sites.ensures.up c.site_from-site-in-sites.ensures.passed
      (spread-more (bit c.args.targets.bits) c.args.place c.sites.site (map members_of c.args.lanes.now) c.sites.lanes c.index-lanes-site.result c.push.new.self (omega arith) c.sites.invariant.lanes (c.sites.invariant.here (omega arith)) c.push.ensures);
  room = room-on (bit c.args.targets.bits) c.sites.site c.site_from-site-in-sites.result c.sites.lanes c.push.new.self c.site_from-site-in-sites.ensures.up c.sites.invariant.room;
  here = c.site_from-site-in-sites.ensures.here;
  counted = counted-more c.sites.lanes c.sites.counts c.sites.site c.push.new.self c.index-lanes-site-in-sites.result c.len.result (omega arith) c.sites.invariant.counted c.len.ensures;
}

pub returns-clause-spread : goal.returns-clause-spread
returns-clause-spread c = spread-end (bit c.args.targets.bits) c.args.place c.sites.site (length c.args.lanes.now) (map members_of c.args.lanes.now) (map members_of c.sites.lanes) (sym (length-map c.args.lanes.now members_of)) (omega (arith, c.sites.invariant.size)) c.sites.invariant.lanes
