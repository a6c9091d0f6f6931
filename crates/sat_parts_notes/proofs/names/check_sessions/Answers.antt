use Rattle.sat_parts_notes.proofs.Loops.{mark-more}
use Rattle.sat_parts_notes.proofs.names.check_sessions.Goals as goal

pub loop-session-preserved : goal.loop-session-preserved
loop-session-preserved g c =
    mark-more g.N.Laid.deployment c.args.sessions.now c.loop-session.session-index c.session-item.result c.number-number.result c.loop-session.given.items c.index.result.now c.loop-session-test.true c.session-item.is
    c.number-number.ensures.number c.number-number.ensures.session c.index.ensures c.if-index.false c.loop-session.invariant
