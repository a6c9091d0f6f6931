use Rattle.std.proofs.Common.{◌∙◌, ap}
use Rattle.sat_machines.specs.Acts.{ActSeen}
use Rattle.sat_site.specs.SiteSteps.{site_answers, site_beat, site_epoch, site_sends}
use Rattle.sat_machines.specs.Layout.{label_link}
use Rattle.sat_machines.specs.Sites.{is_keeper}
use Rattle.sat_machines.proofs.Replies.{named-answers, named-fits}
use Rattle.sat_machines.proofs.site_node.SiteNodeMachine.step.Goals as goal

pub returns-clause-fits : goal.returns-clause-fits
returns-clause-fits g c = λ name s. named-fits c.site_laws.ensures.fits g.N.Laid.deployment name c.args.self.now s c.args.input c.sound.ensures c.in_ok-out.ensures.site c.by.ensures.client c.requires

pub returns-clause-answers : goal.returns-clause-answers
returns-clause-answers g c = λ name s. named-answers c.site_laws.ensures.steps g.N.Laid.deployment name c.args.self.now s c.args.input _ c.sound.ensures c.in_ok-out.ensures.site c.requires (record {
  answer = c.in_ok-out.ensures.twice.answers ∙ ap (λ (act : ActSeen). site_answers c.args.self.now act.input) c.input.view_is;
  sent = c.in_ok-out.ensures.twice.sends ∙ ap (λ (act : ActSeen). site_sends c.args.self.now act.input) c.input.view_is;
  link = c.link-link.ensures ∙ ap (label_link g.N.Laid.deployment) (c.in_ok-out.ensures.twice.epoch ∙ ap (λ (act : ActSeen). site_epoch c.args.self.now act.input) c.input.view_is);
  keepers = λ k. c.keepers-keepers.ensures k ∙ ap (λ (act : ActSeen). is_keeper g.N.Laid.deployment act.input k) c.input.view_is;
  beat = c.in_ok-out.ensures.twice.beat ∙ ap (λ (act : ActSeen). site_beat c.args.self.now act.input) c.input.view_is;
})
