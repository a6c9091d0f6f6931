use Rattle.sat_draw.specs.Tracks.{spot_by}
use Rattle.sat_draw.proofs.Staying.{no_sites, more_sites}
use Rattle.sat_draw.proofs.rests.push_sites.Goals as goal

pub loop-site-init : goal.loop-site-init
loop-site-init c = no_sites c.args.out.now.items (spot_by c.args.under_way.now) c.args.y

pub loop-site-preserved : goal.loop-site-preserved
loop-site-preserved c =
    more_sites c.args.out.now.items c.loop-site.out.items c.push_site.new.out.items (spot_by c.args.under_way.now) c.args.y c.loop-site.site
    c.in_ok-push_site.ensures c.loop-site.invariant
