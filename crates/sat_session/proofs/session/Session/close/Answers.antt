use Rattle.std.proofs.Common.{None, refl, sym, ◌∙◌}
use Rattle.sat_label.specs.declared.node.NodeName.TheVariants as named
use Rattle.sat_act.specs.declared.act.Act.TheVariants as act
use Rattle.sat_site.specs.declared.input.SiteInput.TheVariants as input
use Rattle.sat_session.specs.Calls.{asked_by}
use Rattle.sat_session.proofs.Asking.{asks-by, asks-close, same-name}
use Rattle.sat_session.proofs.session.Session.close.Goals as goal

pub at_site-requires : goal.at_site-requires
at_site-requires g c =
    asks-by g.N.Laid.deployment c.args.self.now c.args.self.now (g.H.Lent.node_of c.args.held.now) (asked_by None input.Close) c.of_site-input.result (act.Close c.args.site) None refl c.of_site-input.ensures
    (asks-close g.N.Laid.deployment c.args.self.now (g.H.Lent.node_of c.args.held.now) c.requires c.args.site (same-name (g.H.Lent.node_of c.args.held.now).name (named.Site c.args.site) (sym c.is_at.ensures ∙ c.if-not-is_at.false)))
