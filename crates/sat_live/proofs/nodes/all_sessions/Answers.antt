use Rattle.std.proofs.Common.{List, subst, sym}
use Rattle.sat_session.specs.Notes.{SessionSeen}
use Rattle.sat_live.specs.Coming.{AreGiven}
use Rattle.sat_live.proofs.Coming.{operator_more}
use Rattle.sat_live.proofs.nodes.all_sessions.Goals as goal

pub returns : goal.returns
returns g c =
    subst (λ (xs : List SessionSeen). AreGiven g.N.Laid.deployment c.operator.new.self.given xs) (sym c.in_ok-push.ensures.items)
    (operator_more g.N.Laid.deployment c.client_sessions.new.cluster.given c.operator.new.self.given c.in_ok-sessions.sessions.items c.operator.result c.in-Ok.operator c.in_ok-sessions.ensures c.in-Ok.is c.operator.ensures.fault
    c.in-Ok.ensures.number c.in-Ok.ensures.fresh.0 c.in-Ok.ensures.given)
