use Rattle.std.proofs.Common.{arith, ◌∙◌, subst}
use Rattle.sat_node.specs.Opened.{AgreeRow}
use Rattle.sat_node.proofs.Agreements.{all_agree, list_same, list_step}
use Rattle.sat_node.proofs.opened.agree_all.Goals as goal

pub loop-a-preserved : goal.loop-a-preserved
loop-a-preserved g c =
    let was = c.index_mut-sender.result.now in (
      list_same c.loop-a.senders.items c.args.senders.now.items c.loop-a.a was c.agree_row.new.sender c.loop-a.invariant.0 c.agree_row.ensures.same.0 c.index_mut-sender.ensures.value,
      c.agree_row.ensures.same.1 ∙ c.loop-a.invariant.1,
      list_step (λ s. AgreeRow g.M.Machine.meaning g.K.Machine.meaning s c.args.receivers.now.items) c.loop-a.senders.items c.args.senders.now.items c.loop-a.a was c.loop-a.invariant.0 (rw c.loop-a.invariant.0 (omega arith)) c.index_mut-sender.ensures.value
          (subst (λ l. AgreeRow g.M.Machine.meaning g.K.Machine.meaning was l) c.loop-a.invariant.1 c.agree_row.ensures.agree) c.loop-a.invariant.2,
    )

pub returns-clause-agree : goal.returns-clause-agree
returns-clause-agree g c = all_agree g.M.Machine.meaning g.K.Machine.meaning c.args.senders.now.items c.args.receivers.now.items (λ a s less at. c.loop-a.invariant.2 a s (omega arith) at)
