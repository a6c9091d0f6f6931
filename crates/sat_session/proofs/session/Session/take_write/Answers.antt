use Rattle.std.proofs.Common.{◌<◌, length, Some, None, ap, sym, ◌∙◌, subst}
use Rattle.sat_label.specs.declared.node.NodeName.TheVariants as named
use Rattle.sat_site.specs.declared.input.SiteInput.TheVariants as input
use Rattle.sat_session.specs.Notes.{SessionSeen}
use Rattle.sat_session.specs.Calls.{asked_by}
use Rattle.sat_session.proofs.Asking.{asks-by, asks-write, same-name}
use Rattle.sat_session.proofs.session.Session.take_write.Goals as goal

pub at_site-requires : goal.at_site-requires
at_site-requires g c =
    let y : SessionSeen = record { number = c.self.inside.number; client = c.self.inside.client; lamport = c.self.inside.lamport; noted = c.self.inside.noted.items } in
    asks-by g.N.Laid.deployment c.args.self.now y (g.H.Lent.node_of c.args.held.now) (asked_by (Some c.self.inside.number) (input.Write c.self.inside.client.carried c.args.items c.args.values)) c.of_client-input.result c.args.act None c.self.view_is c.of_client-input.ensures
    (asks-write g.N.Laid.deployment y (g.H.Lent.node_of c.args.held.now) c.self.invariant (subst (λ (z : SessionSeen). z.number < length g.N.Laid.deployment.clients) (sym c.self.view_is) c.requires.client) c.in-Some.seat (same-name (g.H.Lent.node_of c.args.held.now).name (named.Site c.in-Some.seat) (sym c.is_at.ensures ∙ c.if-not-is_at.false)) c.in-Some.is c.args.act (record { client = c.args.self.now.number; items = c.args.items; values = c.args.values }) c.requires.act (ap (λ (z : SessionSeen). z.number) (sym c.self.view_is)))
