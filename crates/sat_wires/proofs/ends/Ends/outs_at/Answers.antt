use Rattle.sat_wires.proofs.Pairs.{outs_at_more}
use Rattle.sat_wires.proofs.ends.Ends.outs_at.Goals as goal

pub loop-place-preserved : goal.loop-place-preserved
loop-place-preserved g c =
    outs_at_more c.args.places.now c.loop-place.place-index c.loop-place.outs.items c.push.new.self.items c.in-Some.end c.in_ok-push.ensures.items c.loop-place-test.true c.loop-place.invariant c.in-Some.ensures
