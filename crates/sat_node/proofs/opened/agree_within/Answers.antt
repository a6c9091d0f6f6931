use Rattle.std.proofs.Common.{◌≡◌, ◌<◌, length, Some, slice_get, arith, ap, refl, sym, ◌∙◌, subst}
use Rattle.std.proofs.lemmas.Option.{slice_get_read}
use Rattle.std.specs.List.{insert, remove}
use Rattle.sat_node.specs.Opened.{AgreeRow}
use Rattle.sat_node.proofs.Agreements.{within_agrees, within_step, put_back, inserted}
use Rattle.sat_node.proofs.opened.agree_within.Goals as goal

pub loop-a-preserved : goal.loop-a-preserved
loop-a-preserved g c =
    let now = c.loop-a.nodes.items in
    let start = c.args.nodes.now.items in
    let was = c.remove-sender.result in
    let less : c.loop-a.a < length now = rw c.loop-a.invariant.0 (omega arith) in
    let at : slice_get now c.loop-a.a ≡ Some was = slice_get_read now (length now) c.loop-a.a was refl less c.remove-sender.ensures.value in
    let rest = c.agree_row.ensures.same.1 ∙ c.remove-sender.ensures.items in (
      inserted c.insert.result c.insert.new.self.items (insert c.agree_row.new.receivers.items c.loop-a.a c.agree_row.new.sender) c.agree_row.new.receivers.items (c.if-is_err.ensures.value) c.insert.ensures.items ∙ (ap (λ l. insert l c.loop-a.a c.agree_row.new.sender) rest ∙ (ap (insert (remove now c.loop-a.a) c.loop-a.a) c.agree_row.ensures.same.0 ∙ (put_back now c.loop-a.a was at ∙ c.loop-a.invariant.0))),
      within_step (λ x s. AgreeRow g.M.Machine.meaning g.M.Machine.meaning s (remove start x)) start c.loop-a.a was (ap (λ l. slice_get l c.loop-a.a) (sym c.loop-a.invariant.0) ∙ at)
          (subst (λ l. AgreeRow g.M.Machine.meaning g.M.Machine.meaning was l) (c.remove-sender.ensures.items ∙ ap (λ l. remove l c.loop-a.a) c.loop-a.invariant.0) c.agree_row.ensures.agree) c.loop-a.invariant.1,
    )

pub returns-clause-agree : goal.returns-clause-agree
returns-clause-agree g c = within_agrees g.M.Machine.meaning c.args.nodes.now.items (λ a s less at. c.loop-a.invariant.1 a s (omega arith) at)
