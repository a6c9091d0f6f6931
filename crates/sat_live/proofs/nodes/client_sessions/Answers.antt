use Rattle.std.proofs.Common.{List, subst, sym}
use Rattle.sat_session.specs.Notes.{SessionSeen}
use Rattle.sat_live.specs.Coming.{AreGiven}
use Rattle.sat_live.proofs.Coming.{client_more}
use Rattle.sat_live.proofs.nodes.client_sessions.Goals as goal

pub clients-preserved : goal.clients-preserved
clients-preserved g c =
    subst (λ (xs : List SessionSeen). AreGiven g.N.Laid.deployment c.session.new.self.given xs) (sym c.in_ok-push.ensures.items)
    (client_more g.N.Laid.deployment c.line-item.result.name c.clients.cluster.given c.session.new.self.given c.clients.sessions.items c.session.result c.in-Ok.session c.clients.invariant c.in-Ok.is c.session.ensures.fault
    c.in-Ok.ensures.client c.in-Ok.ensures.fresh.0 c.in-Ok.ensures.given)
