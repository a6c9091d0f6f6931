use Rattle.std.proofs.Common.{◌≡◌, take}
use Rattle.sat_session.specs.Notes.{session_notes}
use Rattle.sat_parts_notes.proofs.notes.session_notes.Given as goal

abbrev pub invariant-loop-session : goal.invariant-loop-session
invariant-loop-session g l = l.list.items ≡ session_notes g.N.Laid.deployment (take l.session-index l.sessions)
