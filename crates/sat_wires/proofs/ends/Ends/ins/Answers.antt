use Rattle.sat_wires.proofs.Pairs.{ins_grow}
use Rattle.sat_wires.proofs.ends.Ends.ins.Goals as goal

pub loop-way-preserved : goal.loop-way-preserved
loop-way-preserved g c =
    ins_grow c.args.all.now c.as_slice-way-items.result.now c.loop-way.way-index _ c.loop-way.ins.items c.push.new.self.items c.in_ok-end.end c.in_ok-push.ensures.items c.loop-way-test.true c.loop-way.invariant c.in_ok-end.ensures
