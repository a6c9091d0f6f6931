use Rattle.std.proofs.Common.{take}
use Rattle.sat_parts_notes.proofs.Loops.{Marked}
use Rattle.sat_parts_notes.proofs.names.check_sessions.Given as goal

abbrev pub invariant-loop-session : goal.invariant-loop-session
invariant-loop-session g l = Marked g.N.Laid.deployment (take l.session-index l.sessions) l.given.items
