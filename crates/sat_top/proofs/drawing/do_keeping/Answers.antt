use Rattle.std.proofs.Common.{refl}
use Rattle.sat_act.specs.declared.answer.Answer.{Answer}
use Rattle.sat_runs.specs.Running.{Does}
use Rattle.sat_runs.proofs.Doing.{both_of, settled}
use Rattle.sat_top.proofs.Entering.{if-ok, when-ok, plain-keeps, settle-keeps}
use Rattle.sat_top.proofs.drawing.do_keeping.Goals as goal

pub returns-in-Settle-clause-does : goal.returns-in-Settle-clause-does
returns-in-Settle-clause-does c =
    both_of _ _ (λ (r : Answer). Does c.args.world.now c.args.act.now r c.settle_keeping.new.world) c.settle_keeping.result (λ r says stands. settled c.args.world.now c.settle_keeping.new.world c.args.act.now r c.in-Settle.is says stands)
    c.settle_keeping.ensures.answer c.settle_keeping.ensures.stands

pub returns-in-Settle-clause-keeps : goal.returns-in-Settle-clause-keeps
returns-in-Settle-clause-keeps c = if-ok c.settle_keeping.result _ _ (settle-keeps _ _ _ _ c.in-Settle.is) c.settle_keeping.ensures.keeps

pub returns-in_default-clause-keeps : goal.returns-in_default-clause-keeps
returns-in_default-clause-keeps c = when-ok c.do_act.result _ (plain-keeps _ _ _ _ c.in_default.not-Settle refl)
