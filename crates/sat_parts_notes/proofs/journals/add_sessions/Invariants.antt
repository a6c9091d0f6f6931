use Rattle.std.proofs.Common.{◌≡◌, ◌++◌, map, take}
use Rattle.sat_joint.specs.Seen.{seen}
use Rattle.sat_parts_notes.specs.Collecting.{session_journal}
use Rattle.sat_parts_notes.proofs.journals.add_sessions.Given as goal

abbrev pub invariant-loop-session : goal.invariant-loop-session
invariant-loop-session g l = map seen l.list.items ≡ map seen l.initial.list.items ++ map (session_journal l.base) (take l.session-index l.sessions)
