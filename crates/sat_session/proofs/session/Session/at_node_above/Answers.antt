use Rattle.std.proofs.Common.{ap, ◌∙◌}
use Rattle.sat_session.specs.Notes.{SessionSeen}
use Rattle.sat_session.proofs.Doing.{above_said, kept_as, moves_as, said_as, spare_as}
use Rattle.sat_session.proofs.session.Session.at_node_above.Goals as goal

pub keep-requires-clause-spare : goal.keep-requires-clause-spare
keep-requires-clause-spare g c =
    let y : SessionSeen = record { number = c.self.inside.number; client = c.self.inside.client; lamport = c.self.inside.lamport; noted = c.self.inside.noted.items } in
    spare_as g.N.Laid.deployment g.M.Machine.meaning g.R.Reply.answer_of c.args.self.now (g.H.Lent.node_of c.args.held.now) c.args.own.input c.args.act c.args.spare c.in-Ok.given y c.self.view_is c.requires.asks c.in-Ok.ensures.answer
    c.answer-answer.result c.answer-answer.ensures

pub keep-requires-clause-moves : goal.keep-requires-clause-moves
keep-requires-clause-moves g c =
    let y : SessionSeen = record { number = c.self.inside.number; client = c.self.inside.client; lamport = c.self.inside.lamport; noted = c.self.inside.noted.items } in
    moves_as g.N.Laid.deployment g.M.Machine.meaning g.R.Reply.answer_of c.args.self.now (g.H.Lent.node_of c.args.held.now) c.args.own.input c.args.act c.args.spare c.in-Ok.given y c.self.view_is c.requires.asks c.in-Ok.ensures.answer
    c.answer-answer.result c.answer-answer.ensures

pub invariant_of-self-in-Ok : goal.invariant_of-self-in-Ok
invariant_of-self-in-Ok g c =
    let y : SessionSeen = record { number = c.self.inside.number; client = c.self.inside.client; lamport = c.self.inside.lamport; noted = c.self.inside.noted.items } in
    kept_as g.N.Laid.deployment g.M.Machine.meaning g.R.Reply.answer_of c.args.self.now (g.H.Lent.node_of c.args.held.now) c.args.own.input c.args.act c.args.spare c.in-Ok.given y c.self.view_is c.requires.asks c.in-Ok.ensures.answer
    c.answer-answer.result c.answer-answer.ensures
    c.lamport-lamport.result c.name-name.result c.keep.new.client c.reserve.new.self.items c.keep.new.noted.items c.self.invariant
    (above_said (g.H.Lent.node_of c.args.held.now).number c.self.inside.lamport c.args.said c.lamport-lamport.result (c.lamport-lamport.ensures.number ∙ (ap (λ z. z.number) c.node-in-Ok.ensures.node ∙ c.in-Ok.ensures.takes.number)) (said_as c.args.self.now y c.args.said c.self.view_is c.requires.said))
    (c.name-name.ensures ∙ ap (λ z. z.name) c.node-2.ensures.node) c.reserve.ensures.items c.keep.ensures.noted c.keep.ensures.client
