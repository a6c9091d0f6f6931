use Rattle.sat_draw.specs.Rows.{begin, arrow_for}
use Rattle.sat_draw.specs.Tracks.{spot_by}
use Rattle.sat_draw.proofs.Arrows.{one_more}
use Rattle.sat_draw.proofs.rows.push_arrows.Goals as goal

pub loop-coming-preserved : goal.loop-coming-preserved
loop-coming-preserved c =
    one_more (arrow_for (begin c.args.d.now (spot_by c.args.spots.now)) c.args.here) c.args.out.now.items c.loop-coming.out.items c.push_arrow.new.out.items c.args.all.now c.loop-coming.coming-index _
    c.loop-coming-test.true c.in_ok-push_arrow.ensures c.loop-coming.invariant
