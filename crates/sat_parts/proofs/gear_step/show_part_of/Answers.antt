use Rattle.std.proofs.Common.{sym, ap, ◌∙◌}
use Rattle.sat_act.specs.declared.answer.Answer.TheVariants as ans
use Rattle.sat_parts.specs.declared.gear_input.GearInput.TheVariants as handed
use Rattle.sat_parts.specs.declared.gear_input.ShownBy.{ShownBy}
use Rattle.sat_parts.specs.GearSteps.{gear_after, gear_answers}
use Rattle.sat_parts.proofs.GearCode.{shown-takes}
use Rattle.sat_parts.proofs.gear_step.show_part_of.Goals as goal

pub show-requires-clause-shown : goal.show-requires-clause-shown
show-requires-clause-shown c = shown-takes c.args.gear.now c.args.by c.args.payload c.requires.takes

pub returns-in-Turn-clause-answer : goal.returns-in-Turn-clause-answer
unfolding gear_answers
returns-in-Turn-clause-answer c = ap ans.Shown c.label-label.ensures ∙ ap (λ (b : ShownBy). gear_answers c.args.gear.now (handed.Show b c.args.payload)) (sym c.in-Turn.is)

pub returns-in-Turn-clause-after : goal.returns-in-Turn-clause-after
unfolding gear_after
returns-in-Turn-clause-after c = c.show.ensures

pub returns-in-Stamp-clause-answer : goal.returns-in-Stamp-clause-answer
unfolding gear_answers
returns-in-Stamp-clause-answer c = ap ans.Shown c.label-label.ensures ∙ ap (λ (b : ShownBy). gear_answers c.args.gear.now (handed.Show b c.args.payload)) (sym c.in-Stamp.is)

pub returns-in-Stamp-clause-after : goal.returns-in-Stamp-clause-after
unfolding gear_after
returns-in-Stamp-clause-after c = c.show.ensures

pub returns-in-Write-clause-answer : goal.returns-in-Write-clause-answer
unfolding gear_answers
returns-in-Write-clause-answer c = ap ans.Wrote c.label-label.ensures ∙ ap (λ (b : ShownBy). gear_answers c.args.gear.now (handed.Show b c.args.payload)) (sym c.in-Write.is)

pub returns-in-Write-clause-after : goal.returns-in-Write-clause-after
unfolding gear_after
returns-in-Write-clause-after c = c.show.ensures
