use Rattle.std.proofs.Common.{◌<◌, length, subst, sym, ap, ◌∙◌}
use Rattle.sat_sites.specs.Interested.{keeps}
use Rattle.sat_sites.specs.declared.shape.Shape.{Shape}
use Rattle.sat_site.specs.Seen.{SiteSeen}
use Rattle.sat_site.proofs.site.Site.keeps.Goals as goal

pub is_here-requires : goal.is_here-requires
is_here-requires c = subst (λ (s : Shape). c.args.item < length s.interest.replicas) (sym (c.shape.ensures.shape ∙ ap (λ (x : SiteSeen). x.shape) c.self.view_is)) c.requires

pub returns : goal.returns
returns c = c.is_here.ensures ∙ ap (λ (s : Shape). keeps s.interest c.args.item s.site) (c.shape.ensures.shape ∙ ap (λ (x : SiteSeen). x.shape) c.self.view_is)
