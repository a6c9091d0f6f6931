use Rattle.sat_session.proofs.Doing.{alone_kept}
use Rattle.sat_session.proofs.session.Session.alone.Goals as goal

pub invariant_of-self-2 : goal.invariant_of-self-2
invariant_of-self-2 g c =
    alone_kept g.N.Laid.deployment c.args.self.now c.args.act c.own_answer-answer.result (record { number = c.self.inside.number; client = c.self.inside.client; lamport = c.self.inside.lamport; noted = c.self.inside.noted.items }) c.keep.new.client c.reserve.new.self.items c.keep.new.noted.items
    c.self.view_is c.self.invariant c.requires.client c.requires.own c.requires.range c.requires.nowhere c.own_answer-answer.ensures c.reserve.ensures.items c.keep.ensures.noted c.keep.ensures.client
