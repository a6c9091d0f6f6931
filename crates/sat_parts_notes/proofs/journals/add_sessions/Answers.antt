use Rattle.std.proofs.Common.{◌∷◌, [], map}
use Rattle.sat_joint.specs.Seen.{seen}
use Rattle.sat_session.specs.Notes.{SessionSeen}
use Rattle.sat_parts_notes.specs.Collecting.{session_journal}
use Rattle.sat_parts_notes.proofs.Loops.{grow, map-step}
use Rattle.sat_parts_notes.proofs.journals.add_sessions.Goals as goal

pub loop-session-preserved : goal.loop-session-preserved
loop-session-preserved g c =
    grow (map (session_journal c.args.base)) (λ (x : SessionSeen). session_journal c.args.base x ∷ []) (map-step (session_journal c.args.base)) c.args.sessions.now c.loop-session.session-index c.session-item.result c.loop-session-test.true
    c.session-item.is (map seen c.args.list.now.items) (map seen c.loop-session.list.items) (map seen c.add_session.new.list.items) c.loop-session.invariant c.in_ok-add_session.ensures
