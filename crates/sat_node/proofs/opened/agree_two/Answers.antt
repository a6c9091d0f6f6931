use Rattle.std.proofs.Common.{ap, length, arith}
use Rattle.sat_node.proofs.Agreements.{nodes_agree}
use Rattle.sat_node.proofs.opened.agree_two.Goals as goal

pub returns-clause-agree : goal.returns-clause-agree
returns-clause-agree g c = nodes_agree g.M.Machine.meaning g.K.Machine.meaning c.args.sender.now c.args.receiver.now (λ k less. c.loop-k.invariant.2 k (let same = ap length c.outs-k-end.ensures in omega arith))
