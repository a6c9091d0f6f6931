use Rattle.std.proofs.Common.{◌≡◌, ◌++◌, ◌+◌, ◌≤◌, ℕ, List, None, length}
use Rattle.sat_stream.specs.Stream.{will_be, known_fault, bytes_of}
use Rattle.sat_stream.proofs.stream.ScriptReader.take.Given as goal

abbrev pub invariant-lines : goal.invariant-lines
invariant-lines l =
    (known_fault l.self ≡ None) × ((more : List ℕ) → will_be l.self (l.rest ++ more) ≡ will_be l.initial.self (l.piece ++ more)) × (bytes_of l.initial.self + length l.piece ≤ bytes_of l.self + length l.rest)

abbrev pub decreases-lines : goal.decreases-lines
decreases-lines l = length l.rest
