use Rattle.std.proofs.Common.{ap, ◌∙◌}
use Rattle.sat_epoch.specs.Epochs.{advance_fault}
use Rattle.sat_hub.specs.Seen.{HubSeen}
use Rattle.sat_hub.specs.HubSteps as hub
use Rattle.sat_proxy.specs.Answers.{advance_answer}
use Rattle.sat_proxy.specs.Steps.{has_come}
use Rattle.sat_site.specs.Seen.{SiteSeen}
use Rattle.sat_site.proofs.Hubs.{after-by, passed-site}
use Rattle.sat_site.proofs.site.Site.advance.Goals as goal

pub invariant_of-self : goal.invariant_of-self
invariant_of-self c = passed-site _ _ _ _ c.self.invariant c.limits_of.ensures c.advance-answer.ensures.after

pub returns-clause-answer : goal.returns-clause-answer
returns-clause-answer c = c.advance-answer.ensures.answer ∙ ap (λ (x : SiteSeen). advance_answer x.views x.proxy) c.self.view_is

pub returns-clause-after : goal.returns-clause-after
returns-clause-after c = after-by _ _ _ _ (λ (y : HubSeen). hub.passed_after (advance_fault y.views (has_come y.views y.proxy)) y) c.self.view_is c.advance-answer.ensures.after
