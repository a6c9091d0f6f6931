use Rattle.std.proofs.Common.{◌<◌, subst, sym, ap, ◌∙◌}
use Rattle.sat_proxy.specs.Answers.{attach_answer}
use Rattle.sat_site.specs.Seen.{SiteSeen}
use Rattle.sat_site.proofs.site.Site.attach.Goals as goal

pub attach-requires : goal.attach-requires
attach-requires c = subst (λ (x : SiteSeen). c.args.carried.now.point.site < x.shape.sites) (sym c.self.view_is) c.requires

pub returns : goal.returns
returns c = c.attach.ensures ∙ ap (λ (x : SiteSeen). attach_answer x.views x.proxy c.args.carried.now) c.self.view_is
