use Rattle.sat_draw.proofs.Heads.{no_lanes, more_lanes}
use Rattle.sat_draw.proofs.head.push_site_lanes.Goals as goal

pub loop-site-init : goal.loop-site-init
loop-site-init c = no_lanes c.args.out.now.items c.args.d.now c.args.top c.args.bottom

pub loop-site-preserved : goal.loop-site-preserved
loop-site-preserved c =
    more_lanes c.args.out.now.items c.loop-site.out.items c.push_site_lane.new.out.items c.args.d.now c.args.top c.args.bottom c.loop-site.site
    c.in_ok-push_site_lane.ensures c.loop-site.invariant
