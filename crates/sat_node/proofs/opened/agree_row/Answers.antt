use Rattle.std.proofs.Common.{arith, ◌∙◌, subst}
use Rattle.sat_node.specs.Opened.{AgreeNodes}
use Rattle.sat_node.proofs.Agreements.{row_agrees, list_same, list_step}
use Rattle.sat_node.proofs.opened.agree_row.Goals as goal

pub loop-b-preserved : goal.loop-b-preserved
loop-b-preserved g c =
    let was = c.index_mut-receiver.result.now in (
      c.agree_two.ensures.same.0 ∙ c.loop-b.invariant.0,
      list_same c.loop-b.receivers.items c.args.receivers.now.items c.loop-b.b was c.agree_two.new.receiver c.loop-b.invariant.1 c.agree_two.ensures.same.1 c.index_mut-receiver.ensures.value,
      c.loop-b.invariant.2,
      list_step (λ r. AgreeNodes g.M.Machine.meaning g.K.Machine.meaning c.args.sender.now r) c.loop-b.receivers.items c.args.receivers.now.items c.loop-b.b was c.loop-b.invariant.1 (rw c.loop-b.invariant.1 (omega arith)) c.index_mut-receiver.ensures.value
          (subst (λ s. AgreeNodes g.M.Machine.meaning g.K.Machine.meaning s was) c.loop-b.invariant.0 c.agree_two.ensures.agree) c.loop-b.invariant.3,
    )

pub returns-clause-agree : goal.returns-clause-agree
returns-clause-agree g c = row_agrees g.M.Machine.meaning g.K.Machine.meaning c.args.sender.now c.args.receivers.now.items (λ b r less at. c.loop-b.invariant.3 b r (omega arith) at)
