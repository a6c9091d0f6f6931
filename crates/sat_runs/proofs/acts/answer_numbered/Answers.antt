use Rattle.std.proofs.Common.{◌∙◌}
use Rattle.sat_act.specs.declared.answer.Answer.{Answer}
use Rattle.sat_runs.specs.Running.{Does}
use Rattle.sat_runs.proofs.Doing.{both_of, is_plain, settled, stayed, stays, stepped, stopped}
use Rattle.sat_runs.proofs.Running.{has_line, stops_on}
use Rattle.sat_runs.proofs.acts.answer_numbered.Goals as goal

pub returns-in-Settle : goal.returns-in-Settle
returns-in-Settle c =
    let does = both_of _ _ (λ (r : Answer). Does c.args.world.now c.args.act.now r c.settle-done.new.world) c.settle-done.result (λ r says stands. settled c.args.world.now c.settle-done.new.world c.args.act.now r c.in-Settle.is says stands)
    c.settle-done.ensures.answer c.settle-done.ensures.stands in
    record {
      deployment = c.settle-done.ensures.deployment;
      line = has_line c.write_done.result c.settle-done.result c.deployment.result.now c.args.world.now c.settle-done.new.world c.args.line.now c.args.text.now.items c.write_done.new.text.items c.args.act.now c.requires.act (c.deployment.ensures ∙ c.settle-done.ensures.deployment) c.write_done.ensures.written does;
      text = c.write_done.ensures.err;
      world = stops_on c.write_done.result c.settle-done.result c.args.world.now c.settle-done.new.world c.args.act.now c.requires.act does
          (stopped c.settle-done.result c.args.world.now c.settle-done.new.world c.args.act.now c.in-Settle.is c.settle-done.ensures.err);
    }

pub step-done-requires-clause-plain : goal.step-done-requires-clause-plain
step-done-requires-clause-plain c = is_plain c.args.act.now c.in_default.not-Settle

pub returns : goal.returns
returns c =
    let same = stays c.step-done.result c.args.world.now c.step-done.new.self c.args.act.now c.step-done.ensures.applies c.step-done.ensures.err in
    let does = stepped c.step-done.result c.args.world.now c.step-done.new.self c.args.act.now c.in_default.not-Settle c.step-done.ensures.applies in
    record {
      deployment = same;
      line = has_line c.write_done-2.result c.step-done.result c.deployment-2.result.now c.args.world.now c.step-done.new.self c.args.line.now c.args.text.now.items c.write_done-2.new.text.items c.args.act.now c.requires.act (c.deployment-2.ensures ∙ same) c.write_done-2.ensures.written does;
      text = c.write_done-2.ensures.err;
      world = stops_on c.write_done-2.result c.step-done.result c.args.world.now c.step-done.new.self c.args.act.now c.requires.act does
          (stayed c.step-done.result c.args.world.now c.step-done.new.self c.args.act.now c.in_default.not-Settle c.step-done.ensures.err);
    }
