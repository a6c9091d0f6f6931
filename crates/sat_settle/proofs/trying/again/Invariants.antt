use Rattle.sat_settle.proofs.Until.{Repeats}
use Rattle.sat_settle.proofs.trying.again.Given as goal

abbrev pub invariant-loop-done : goal.invariant-loop-done
invariant-loop-done l = Repeats l.initial.world l.act l.done l.world
