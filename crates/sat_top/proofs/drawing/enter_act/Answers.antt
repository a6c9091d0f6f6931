use Rattle.std.proofs.Common.{◌∙◌, ◌++◌, ◌∷◌, [], List, ap}
use Rattle.sat_act.specs.declared.act.Act.{Act}
use Rattle.sat_act.specs.declared.entry.Entry.{Entry}
use Rattle.sat_runs.specs.Running.{entry}
use Rattle.sat_top.specs.Drawing.{numbered}
use Rattle.sat_top.proofs.Entering.{enters_more}
use Rattle.sat_top.proofs.drawing.enter_act.Goals as goal

pub returns-clause-entering : goal.returns-clause-entering
returns-clause-entering c = λ acts row now.
    enters_more c.args.world.now c.do_keeping.new.world c.args.entries.now.items c.push.new.self.items c.args.moved.now.items c.push_moves.new.moved.items c.new-kept.result.items c.do_keeping.new.kept.items c.args.row acts c.args.act.now c.in_ok-answer.answer c.requires.act c.in_ok-answer.ensures.does
    (c.in_ok-push.ensures.items ∙ ap (λ (a : Act). c.args.entries.now.items ++ entry a c.in_ok-answer.answer ∷ []) c.in_ok-act.ensures)
    c.new-kept.ensures.items c.in_ok-answer.ensures.keeps
    (c.in_ok-push_moves.ensures ∙ ap (λ (es : List Entry). c.args.moved.now.items ++ numbered c.args.row 0 es) c.as_slice.ensures.value)
    row now
