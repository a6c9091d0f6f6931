use Rattle.sat_stream.specs.declared.limits.TheConstants.{MOST_BYTES}
use Rattle.std.proofs.Common.{◌≡◌, ◌≤◌, ◌-◌, ℕ, List, None}
use Rattle.sat_outside.specs.Streams.{Takes}
use Rattle.sat_stream.specs.Stream.{known_fault, bytes_of}
use Rattle.sat_pieces.proofs.Streamed.{IsUnder, IsDrained}
use Rattle.sat_pieces.proofs.stream.run_script.Given as goal

abbrev pub invariant-pieces : goal.invariant-pieces
invariant-pieces g l = record {
  fresh : known_fault l.reader ≡ None;
  later : g.S.Source.faults l.initial.source ≤ g.S.Source.faults l.source;
  kept : g.K.Sink.faults l.initial.sink ≤ g.K.Sink.faults l.sink;
  ends : g.S.Source.ends l.source ≡ g.S.Source.ends l.initial.source;
  under : (written : List ℕ) × IsUnder (g.S.Source.left l.initial.source) (g.S.Source.left l.source) l.taken l.reader l.world l.done written × Takes (g.K.Sink.told l.initial.sink) (g.K.Sink.told l.sink) written;
  drained : IsDrained l.reader l.world;
  counted : l.taken ≤ bytes_of l.reader;
  few : bytes_of l.reader ≤ MOST_BYTES;
}

abbrev pub decreases-pieces : goal.decreases-pieces
decreases-pieces g l = 268435456 - l.taken
