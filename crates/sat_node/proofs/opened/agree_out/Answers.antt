use Rattle.std.proofs.Common.{ap, length, arith}
use Rattle.sat_node.proofs.Agreements.{out_agrees}
use Rattle.sat_node.proofs.opened.agree_out.Goals as goal

pub returns-clause-agree : goal.returns-clause-agree
returns-clause-agree g c = out_agrees g.M.Machine.meaning g.K.Machine.meaning c.args.sender.now c.args.out c.args.receiver.now (λ j less. c.loop-j.invariant.2 j (let same = ap length c.ins-j-end.ensures in omega arith))
