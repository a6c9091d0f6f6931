use Rattle.std.proofs.Common.{ap, ◌∙◌}
use Rattle.sat_site.specs.Seen.{SiteSeen}
use Rattle.sat_site.proofs.Sending.{sent-in, turn-epoch}
use Rattle.sat_site.proofs.site.Site.epoch.Goals as goal

pub returns-in-Turn : goal.returns-in-Turn
returns-in-Turn c = c.view.ensures ∙ (ap (λ (x : SiteSeen). x.views.view) c.self.view_is ∙ turn-epoch c.args.self.now c.args.input.now _ c.in-Turn.is)

pub returns-in-None : goal.returns-in-None
returns-in-None c = sent-in c.args.self.now c.args.input.now _ _ c.in_default.not-Turn c.requires c.in-None.is

pub returns-in-Some : goal.returns-in-Some
returns-in-Some c = c.emission.ensures ∙ (ap (λ (x : SiteSeen). x.views.emission) c.self.view_is ∙ sent-in c.args.self.now c.args.input.now _ _ c.in_default.not-Turn c.requires c.in-Some.is)
