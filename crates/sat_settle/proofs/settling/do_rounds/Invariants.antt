use Rattle.sat_settle.proofs.Turning.{Rounds}
use Rattle.sat_settle.proofs.settling.do_rounds.Given as goal

abbrev pub invariant-loop-rounds : goal.invariant-loop-rounds
invariant-loop-rounds l = Rounds l.fn.world l.rounds l.done l.world
