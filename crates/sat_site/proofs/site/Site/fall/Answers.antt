use Rattle.std.proofs.Common.{ap, ◌∙◌}
use Rattle.sat_epoch.specs.Epochs.{fall_fault}
use Rattle.sat_hub.specs.Seen.{HubSeen}
use Rattle.sat_hub.specs.HubSteps as hub
use Rattle.sat_site.specs.Seen.{SiteSeen}
use Rattle.sat_site.proofs.Hubs.{after-by, fall-site}
use Rattle.sat_site.proofs.site.Site.fall.Goals as goal

pub invariant_of-self : goal.invariant_of-self
invariant_of-self c = fall-site _ _ _ _ c.self.invariant c.limits_of.ensures c.fall-answer.ensures.after

pub returns-clause-answer : goal.returns-clause-answer
returns-clause-answer c = c.fall-answer.ensures.answer ∙ ap (λ (x : SiteSeen). hub.fall_answer (fall_fault x.views)) c.self.view_is

pub returns-clause-after : goal.returns-clause-after
returns-clause-after c = after-by _ _ _ _ (λ (y : HubSeen). hub.fall_after (fall_fault y.views) y) c.self.view_is c.fall-answer.ensures.after
