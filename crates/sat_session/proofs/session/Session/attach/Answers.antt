use Rattle.std.proofs.Common.{◌<◌, length, Some, None, sym, ◌∙◌, subst}
use Rattle.sat_label.specs.declared.node.NodeName.TheVariants as named
use Rattle.sat_act.specs.declared.act.Act.TheVariants as act
use Rattle.sat_site.specs.declared.input.SiteInput.TheVariants as input
use Rattle.sat_opened.proofs.Numbers.{is-less}
use Rattle.sat_session.specs.Notes.{SessionSeen}
use Rattle.sat_session.specs.Calls.{asked_by}
use Rattle.sat_session.proofs.Asking.{asks-by, asks-attach, same-name, none-is}
use Rattle.sat_session.proofs.session.Session.attach.Goals as goal

pub at_site-requires : goal.at_site-requires
at_site-requires g c =
    let y : SessionSeen = record { number = c.self.inside.number; client = c.self.inside.client; lamport = c.self.inside.lamport; noted = c.self.inside.noted.items } in
    asks-by g.N.Laid.deployment c.args.self.now y (g.H.Lent.node_of c.args.held.now) (asked_by (Some c.self.inside.number) (input.Attach c.self.inside.client.carried)) c.of_client-input.result (act.Attach c.self.inside.number c.args.site) None c.self.view_is c.of_client-input.ensures
    (asks-attach g.N.Laid.deployment y (g.H.Lent.node_of c.args.held.now) c.self.invariant (subst (λ (z : SessionSeen). z.number < length g.N.Laid.deployment.clients) (sym c.self.view_is) c.requires.client) c.args.site (same-name (g.H.Lent.node_of c.args.held.now).name (named.Site c.args.site) (sym c.is_at.ensures ∙ c.if-not-is_at.false)) (none-is c.self.inside.client.seat (sym c.is_some.ensures ∙ c.if-is_some.false)) (is-less c.args.site g.N.Laid.deployment.sites c.requires.site))
