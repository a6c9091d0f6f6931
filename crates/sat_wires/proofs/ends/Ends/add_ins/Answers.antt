use Rattle.sat_node.specs.Links.{in_places}
use Rattle.sat_wires.proofs.Pairs.{ins_at_more}
use Rattle.sat_wires.proofs.ends.Ends.add_ins.Goals as goal

pub loop-place-preserved : goal.loop-place-preserved
loop-place-preserved g c =
    ins_at_more (in_places c.args.ins.now.items) c.args.places.now c.loop-place.place-index c.loop-place.ins.items c.push.new.self.items c.in-Some.end c.in_ok-push.ensures.items c.loop-place-test.true c.loop-place.invariant c.in-Some.ensures
