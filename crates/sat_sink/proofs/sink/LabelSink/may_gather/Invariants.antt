use Rattle.std.proofs.Common.{ℕ, ◌<◌, get_or}
use Rattle.sat_bulk.specs.declared.Drained.{Drained}
use Rattle.sat_sink.specs.Sink.{IsDrainOf}
use Rattle.sat_sink.proofs.sink.LabelSink.may_gather.Given as goal

abbrev pub invariant-loop-gear : goal.invariant-loop-gear
invariant-loop-gear l = (g : ℕ) (d : Drained) → g < l.gear → IsDrainOf l.self g (get_or l.drained g d)
