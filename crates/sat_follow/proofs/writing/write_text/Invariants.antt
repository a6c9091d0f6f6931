use Rattle.std.proofs.Common.{length, ◌-◌, ◌≤◌, take}
use Rattle.sat_outside.specs.Streams.{Takes}
use Rattle.sat_follow.proofs.writing.write_text.Given as goal

abbrev pub invariant-loop-at : goal.invariant-loop-at
invariant-loop-at g l =
    (l.at ≤ length l.text) × Takes (g.K.Sink.told l.initial.sink) (g.K.Sink.told l.sink) (take l.at l.text) × (g.K.Sink.faults l.initial.sink ≤ g.K.Sink.faults l.sink)

abbrev pub decreases-loop-at : goal.decreases-loop-at
decreases-loop-at g l = length l.text - l.at
