use Rattle.std.proofs.Common.{◌≡◌, ◌∙◌, sym}
use Rattle.sat_session.specs.Notes.{session_at, notes_of, session_notes}
use Rattle.sat_parts_notes.specs.Filing.{owner_in}
use Rattle.sat_parts_notes.proofs.Loops.{grow-alone, flat-step, session-adds}
use Rattle.sat_parts_notes.proofs.notes.session_notes.Goals as goal

pub loop-session-preserved : goal.loop-session-preserved
loop-session-preserved g c =
    let owner : owner_in c.client_at-client.result ≡ session_at g.N.Laid.deployment c.session-item.result.number = c.client_at-client.ensures ∙ (λ i. session_at (sym c.requires i) (c.number.ensures.number i)) in
    grow-alone (session_notes g.N.Laid.deployment) (notes_of g.N.Laid.deployment) (flat-step (notes_of g.N.Laid.deployment)) c.args.sessions.now c.loop-session.session-index c.session-item.result c.loop-session-test.true c.session-item.is
    c.loop-session.list.items c.add_notes.new.list.items c.loop-session.invariant
    (session-adds g.N.Laid.deployment c.session-item.result (owner_in c.client_at-client.result) c.noted.result.now c.loop-session.list.items c.add_notes.new.list.items owner c.noted.ensures.noted c.in_ok-add_notes.ensures)
