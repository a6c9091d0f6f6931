use Rattle.sat_wires.proofs.Pairs.{pair_more}
use Rattle.sat_wires.proofs.wires.add_pair.Goals as goal

pub returns-clause-pairs : goal.returns-clause-pairs
returns-clause-pairs c =
    pair_more c.args.capacity c.args.pairs.now.ins.items c.push.new.self.items c.args.pairs.now.outs.items c.push-2.new.self.items c.in_ok-input.input c.in_ok-input.output c.requires.pairs
    c.in_ok-push.ensures.items c.in_ok-push-2.ensures.items c.in_ok-input.ensures.wire.0 c.in_ok-input.ensures.wire.1 c.in_ok-input.ensures.sender.0 c.in_ok-input.ensures.receiver.0
