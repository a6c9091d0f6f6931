use Rattle.sat_draw.specs.Moved.{site_hauls}
use Rattle.sat_draw.proofs.Arrows.{one_more}
use Rattle.sat_draw.proofs.moved.push_to_sites.Goals as goal

pub loop-node-preserved : goal.loop-node-preserved
loop-node-preserved c =
    one_more (site_hauls c.args.epoch c.args.z c.args.label) c.args.out.now.items c.loop-node.out.items c.push_to_site.new.out.items c.args.to.now c.loop-node.node-index _
    c.loop-node-test.true c.in_ok-push_to_site.ensures c.loop-node.invariant
