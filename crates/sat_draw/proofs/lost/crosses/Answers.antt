use Rattle.std.proofs.Common.{[]}
use Rattle.sat_draw.specs.Lost.{cross_for}
use Rattle.sat_draw.specs.Tracks.{spot_by}
use Rattle.sat_draw.proofs.Arrows.{one_more}
use Rattle.sat_draw.proofs.lost.crosses.Goals as goal

pub loop-sending-preserved : goal.loop-sending-preserved
loop-sending-preserved c =
    one_more (cross_for (spot_by c.args.under_way.now)) [] c.loop-sending.all.items c.push_lost.new.out.items c.args.sendings.now c.loop-sending.sending-index _
    c.loop-sending-test.true c.in_ok-push_lost.ensures c.loop-sending.invariant
