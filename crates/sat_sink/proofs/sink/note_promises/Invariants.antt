use Rattle.std.proofs.Common.{◌≡◌, map, take}
use Rattle.sat_sink.specs.Pending.{promise_of}
use Rattle.sat_sink.proofs.sink.note_promises.Given as goal

abbrev pub invariant-loop-gear : goal.invariant-loop-gear
invariant-loop-gear l = take l.gear l.promises ≡ map promise_of (take l.gear l.drained)
