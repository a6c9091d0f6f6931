use Rattle.std.proofs.Common.{ap, ◌∙◌}
use Rattle.sat_hub.specs.Seen.{HubSeen}
use Rattle.sat_hub.specs.HubSteps as hub
use Rattle.sat_site.specs.Seen.{SiteSeen}
use Rattle.sat_site.proofs.Hubs.{after-by, pulse-site}
use Rattle.sat_site.proofs.site.Site.pulse.Goals as goal

pub invariant_of-self : goal.invariant_of-self
invariant_of-self c = pulse-site _ _ _ _ c.self.invariant c.limits_of.ensures c.pulse-answer.ensures.after

pub returns-clause-answer : goal.returns-clause-answer
returns-clause-answer c = c.pulse-answer.ensures.answer ∙ ap (λ (x : SiteSeen). hub.pulse_answer (hub.next_pulse x.sink)) c.self.view_is

pub returns-clause-after : goal.returns-clause-after
returns-clause-after c = after-by _ _ _ _ (λ (y : HubSeen). hub.pulse_after y (hub.next_pulse y.sink)) c.self.view_is c.pulse-answer.ensures.after
