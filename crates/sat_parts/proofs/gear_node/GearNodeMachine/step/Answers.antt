use Rattle.std.proofs.Common.{sym, ◌∙◌}
use Rattle.sat_parts.specs.GearSteps.{gear_after, gear_answers}
use Rattle.sat_parts.specs.Gears.{is_kept_at}
use Rattle.sat_parts.proofs.GearMachine.{named-after, named-answers, named-fits, same-after}
use Rattle.sat_parts.proofs.gear_node.GearNodeMachine.step.Goals as goal

pub returns-clause-fits : goal.returns-clause-fits
returns-clause-fits g c = λ name s. named-fits g.N.Laid.deployment name c.args.self.now s c.args.input c.sound.ensures.gear c.by.ensures.client c.requires

pub returns-clause-answers : goal.returns-clause-answers
returns-clause-answers g c = λ name s. named-answers g.N.Laid.deployment name c.args.self.now s c.args.input _ c.sound.ensures.gear c.requires
    (c.in_ok-answer.ensures.answer ∙ (λ j. gear_answers (c.self.view_is j) (c.input.view_is j).input))
    (λ k. c.keepers-keepers.ensures k ∙ (λ j. is_kept_at g.N.Laid.deployment (c.input.view_is j).input k))

pub returns-clause-after : goal.returns-clause-after
returns-clause-after g c = λ name s. named-after c.lane_laws.ensures g.N.Laid.deployment name c.args.self.now c.step_twice.new.gear s c.args.input.input _ c.sound.ensures.gear c.requires
    (c.in_ok-answer.ensures.after ∙ (λ j. gear_after (c.self.view_is j) (c.input.view_is j).input)) (c.in_ok-answer.ensures.answer ∙ (λ j. gear_answers (c.self.view_is j) (c.input.view_is j).input))

pub invariant_of-self-2 : goal.invariant_of-self-2
invariant_of-self-2 g c =
    let same = same-after c.self.inside.gear c.step_twice.new.gear c.input.inside.input c.in_ok-answer.ensures.after in
    (c.self.invariant.0, c.self.invariant.1 ∙ sym same.0, c.self.invariant.2 ∙ sym same.1, c.self.invariant.3)
