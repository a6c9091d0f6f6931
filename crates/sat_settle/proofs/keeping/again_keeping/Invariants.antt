use Rattle.sat_settle.proofs.Until.{Repeats}
use Rattle.sat_settle.proofs.KeptOn.{RepeatsKeeping}
use Rattle.sat_settle.proofs.keeping.again_keeping.Given as goal

abbrev pub invariant-loop-done : goal.invariant-loop-done
invariant-loop-done l = Repeats l.fn.world l.act l.done l.world × RepeatsKeeping l.fn.world l.act l.done l.world l.fn.entries.items l.entries.items
