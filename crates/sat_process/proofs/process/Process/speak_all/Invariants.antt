use Rattle.sat_process.specs.Spoken.{SpokeOf}
use Rattle.sat_process.proofs.process.Process.speak_all.Given as goal

abbrev pub invariant-loop-said : goal.invariant-loop-said
invariant-loop-said g l = SpokeOf g.M.Machine.meaning.puts g.T.Transport.sent g.T.Transport.came l.link l.said l.initial.self l.self
