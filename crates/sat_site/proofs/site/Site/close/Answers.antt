use Rattle.std.proofs.Common.{ap, ◌∙◌}
use Rattle.sat_epoch.specs.Epochs.{close_fault}
use Rattle.sat_hub.specs.Seen.{HubSeen}
use Rattle.sat_hub.specs.HubSteps as hub
use Rattle.sat_site.specs.Seen.{SiteSeen, hub_of}
use Rattle.sat_site.proofs.Hubs.{after-by, close-site}
use Rattle.sat_site.proofs.site.Site.close.Goals as goal

pub invariant_of-self : goal.invariant_of-self
invariant_of-self c = close-site _ _ _ _ c.self.invariant c.limits_of.ensures c.close-answer.ensures.after

pub returns-clause-answer : goal.returns-clause-answer
returns-clause-answer c = c.close-answer.ensures.answer ∙ ap (λ (x : SiteSeen). hub.close_answer (close_fault x.views) (hub_of x)) c.self.view_is

pub returns-clause-after : goal.returns-clause-after
returns-clause-after c = after-by _ _ _ _ (λ (y : HubSeen). hub.close_after (close_fault y.views) y) c.self.view_is c.close-answer.ensures.after
