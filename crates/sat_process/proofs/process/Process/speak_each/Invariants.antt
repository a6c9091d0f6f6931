use Rattle.sat_process.specs.Spoken.{SpokeEach}
use Rattle.sat_process.proofs.process.Process.speak_each.Given as goal

abbrev pub invariant-loop-link : goal.invariant-loop-link
invariant-loop-link g l = SpokeEach g.M.Machine.meaning.puts g.T.Transport.sent g.T.Transport.came l.most l.link l.all l.initial.self l.self
