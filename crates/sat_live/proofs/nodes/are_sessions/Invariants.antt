use Rattle.std.proofs.Common.{take}
use Rattle.std.specs.List.{AllByRecursion}
use Rattle.sat_session.specs.Sessions.{IsSession}
use Rattle.sat_live.proofs.nodes.are_sessions.Given as goal

abbrev pub invariant-sessions : goal.invariant-sessions
invariant-sessions g l = AllByRecursion (IsSession g.N.Laid.deployment) (take l.session-index l.sessions)
