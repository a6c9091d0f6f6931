use Rattle.std.proofs.Common.{ap, ◌∙◌}
use Rattle.sat_world.specs.Seen.{WorldSeen}
use Rattle.sat_lasting_runs.proofs.Entering.{enters}
use Rattle.sat_lasting_runs.proofs.lasting_lines.answer_act.Goals as goal

pub returns : goal.returns
returns c = record {
  ok = enters c.write_lasting_line.result c.args.lasting.now c.apply.new.self c.args.act.now c.in_ok-answer.answer c.deployment.result.now c.args.number c.args.text.now.items c.write_lasting_line.new.out.items c.in_ok-answer.ensures.applies
      (c.deployment.ensures ∙ ap (λ (w : WorldSeen). w.deployment) c.world.ensures.world) c.write_lasting_line.ensures.ok;
}
