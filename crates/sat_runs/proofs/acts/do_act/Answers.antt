use Rattle.sat_act.specs.declared.answer.Answer.{Answer}
use Rattle.sat_runs.specs.Running.{Does}
use Rattle.sat_runs.proofs.Doing.{both_of, did, is_plain, settled, stayed, stopped}
use Rattle.sat_runs.proofs.acts.do_act.Goals as goal

pub apply-requires-clause-plain : goal.apply-requires-clause-plain
apply-requires-clause-plain c = is_plain c.args.act.now c.in_default.not-Settle

pub returns-in-Settle-clause-does : goal.returns-in-Settle-clause-does
returns-in-Settle-clause-does c =
    both_of _ _ (λ (r : Answer). Does c.args.world.now c.args.act.now r c.settle.new.world) c.settle.result (λ r says stands. settled c.args.world.now c.settle.new.world c.args.act.now r c.in-Settle.is says stands)
    c.settle.ensures.answer c.settle.ensures.stands

pub returns-in-Settle-clause-err : goal.returns-in-Settle-clause-err
returns-in-Settle-clause-err c = stopped c.settle.result c.args.world.now c.settle.new.world c.args.act.now c.in-Settle.is c.settle.ensures.err

pub returns-in_default-clause-does : goal.returns-in_default-clause-does
returns-in_default-clause-does c =
    both_of _ _ (λ (r : Answer). Does c.args.world.now c.args.act.now r c.apply.new.self) c.apply.result (λ r says stands. did c.args.world.now c.apply.new.self c.args.act.now r c.in_default.not-Settle says stands)
    c.apply.ensures.answer c.apply.ensures.stands

pub returns-in_default-clause-err : goal.returns-in_default-clause-err
returns-in_default-clause-err c = stayed c.apply.result c.args.world.now c.apply.new.self c.args.act.now c.in_default.not-Settle c.apply.ensures.err
