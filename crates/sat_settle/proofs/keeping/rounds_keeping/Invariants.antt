use Rattle.sat_settle.proofs.Turning.{Rounds}
use Rattle.sat_settle.proofs.KeptOn.{RoundsKeeping}
use Rattle.sat_settle.proofs.keeping.rounds_keeping.Given as goal

abbrev pub invariant-loop-rounds : goal.invariant-loop-rounds
invariant-loop-rounds l = Rounds l.fn.world l.rounds l.done l.world × RoundsKeeping l.fn.world l.rounds l.done l.world l.fn.entries.items l.entries.items
