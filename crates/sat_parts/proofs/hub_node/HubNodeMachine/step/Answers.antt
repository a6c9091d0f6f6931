use Rattle.std.proofs.Common.{ap, ◌∙◌}
use Rattle.sat_machines.specs.Layout.{label_link}
use Rattle.sat_machines.specs.Plain.{is_plain}
use Rattle.sat_parts.specs.HubSteps.{hub_after, hub_answers, hub_beat, hub_epoch, hub_sends, hub_shows, hub_takes}
use Rattle.sat_parts.proofs.HubMachine.{hub-plain, named-after, named-answers, named-fits, times-after}
use Rattle.sat_parts.proofs.hub_node.HubNodeMachine.step.Goals as goal

pub copy_plain-again-requires : goal.copy_plain-again-requires
copy_plain-again-requires g c = ap is_plain c.in_ok-answer.ensures.answer ∙ hub-plain c.self.inside.hub c.input.inside.input

pub invariant_of-self-2 : goal.invariant_of-self-2
invariant_of-self-2 g c = (
  c.self.invariant.0,
  c.self.invariant.1,
  times-after c.self.inside.hub c.act.new.hub c.input.inside.input ((λ j. hub_takes (c.self.view_is j) (c.input.view_is j).input) ∙ c.requires) c.in_ok-answer.ensures.after c.self.invariant.2,
)

pub returns-clause-fits : goal.returns-clause-fits
returns-clause-fits g c = λ name s. named-fits c.site_laws.ensures.fits g.N.Laid.deployment name c.args.self.now s c.args.input c.sound.ensures.deployment c.sound.ensures.hub c.sound.ensures.times c.by.ensures.client c.requires

pub returns-clause-answers : goal.returns-clause-answers
returns-clause-answers g c = λ name s. named-answers c.site_laws.ensures.steps g.N.Laid.deployment name c.args.self.now s c.args.input _ c.sound.ensures.deployment c.sound.ensures.hub c.sound.ensures.times c.requires (record {
  answer = c.in_ok-answer.ensures.answer ∙ (λ j. hub_answers (c.self.view_is j) (c.input.view_is j).input);
  sent = c.sends-sent.ensures ∙ (λ j. hub_sends (c.self.view_is j) (c.input.view_is j).input);
  link = c.link-link.ensures ∙ ap (label_link g.N.Laid.deployment) (c.epoch_of-epoch.ensures ∙ (λ j. hub_epoch (c.self.view_is j) (c.input.view_is j).input));
  beat = c.in_ok-beat.ensures.beat ∙ (λ j. hub_beat (c.self.view_is j) (c.input.view_is j).input);
  show = c.in_ok-beat.ensures.show ∙ (λ j. hub_shows (c.self.view_is j) (c.input.view_is j).input);
})

pub returns-clause-after : goal.returns-clause-after
returns-clause-after g c = λ name s. named-after c.site_laws.ensures.steps g.N.Laid.deployment name c.args.self.now c.act.new.hub s c.args.input.input _ c.sound.ensures.deployment c.sound.ensures.hub c.sound.ensures.times c.requires
    (c.in_ok-answer.ensures.after ∙ (λ j. hub_after (c.self.view_is j) (c.input.view_is j).input)) (c.in_ok-answer.ensures.answer ∙ (λ j. hub_answers (c.self.view_is j) (c.input.view_is j).input))
