use Rattle.std.specs.List.{list_all}
use Rattle.std.proofs.Common.{length, subst, sym, ap, ◌∙◌}
use Rattle.sat_label.specs.Grouped.{list_of}
use Rattle.sat_sites.specs.Interested.{keeps, AreBelow}
use Rattle.sat_sites.specs.declared.shape.Shape.{Shape}
use Rattle.sat_site.specs.Seen.{SiteSeen}
use Rattle.sat_site.proofs.site.Site.keeps_all.Goals as goal

pub keeps_all-requires : goal.keeps_all-requires
keeps_all-requires c = subst (λ (s : Shape). AreBelow (length s.interest.replicas) (list_of c.args.items.now)) (sym (c.shape.ensures.shape ∙ ap (λ (x : SiteSeen). x.shape) c.self.view_is)) c.requires

pub returns : goal.returns
returns c = c.keeps_all.ensures ∙ ap (λ (s : Shape). list_all (λ n. keeps s.interest n s.site) (list_of c.args.items.now)) (c.shape.ensures.shape ∙ ap (λ (x : SiteSeen). x.shape) c.self.view_is)
