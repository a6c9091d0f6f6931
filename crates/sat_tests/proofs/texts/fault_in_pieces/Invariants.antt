use Rattle.std.proofs.Common.{◌≡◌, None}
use Rattle.sat_stream.specs.Stream.{known_fault}
use Rattle.sat_tests.proofs.texts.fault_in_pieces.Given as goal

abbrev pub invariant-loop-piece : goal.invariant-loop-piece
invariant-loop-piece l = known_fault l.reader ≡ None
