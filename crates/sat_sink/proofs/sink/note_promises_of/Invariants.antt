use Rattle.std.proofs.Common.{◌≡◌, map, take}
use Rattle.sat_gear.specs.Gear.{drained_of}
use Rattle.sat_sink.specs.Pending.{promise_of}
use Rattle.sat_sink.proofs.sink.note_promises_of.Given as goal

abbrev pub invariant-loop-place : goal.invariant-loop-place
invariant-loop-place l = take l.place l.promises ≡ map promise_of (map drained_of (take l.place l.gears))
