use Rattle.std.proofs.Common.{[], refl, rules, subst}
use Rattle.sat_act.specs.Deployed.{Deployed}
use Rattle.sat_runs.specs.Running.{IsAnswering}
use Rattle.sat_runs.proofs.Running.{answers_none}
use Rattle.sat_pieces.proofs.run.begin.Goals as goal

pub returns-clause-running : goal.returns-clause-running
returns-clause-running c = λ empty.
    subst (λ (d : Deployed). IsAnswering d c.answer_acts.new.world c.answer_acts.new.text.items c.args.acts.now) (search rules)
    (c.in_ok-answer_acts.ensures.running [] [] refl (answers_none c.in_ok-world.world.deployment c.in_ok-world.world c.args.text.now.items c.in_ok-world.ensures.stands empty))
