use Rattle.sat_draw.specs.Lost.{sending_at}
use Rattle.sat_draw.proofs.Arrows.{one_more}
use Rattle.sat_draw.proofs.lost.push_sendings.Goals as goal

pub loop-trail-preserved : goal.loop-trail-preserved
loop-trail-preserved c =
    one_more (sending_at c.args.here) c.args.out.now.items c.loop-trail.out.items c.push_sending.new.out.items c.args.trails.now c.loop-trail.trail-index _
    c.loop-trail-test.true c.in_ok-push_sending.ensures c.loop-trail.invariant
