use Rattle.sat_stream.specs.declared.limits.TheConstants.{MOST_BYTES}
use Rattle.std.proofs.Common.{◌≡◌, ◌≤◌, ◌-◌, [], None}
use Rattle.sat_stream.specs.Stream.{will_be, known_fault, bytes_of, LacksOnlyItsEnd}
use Rattle.sat_pieces.proofs.Progress.{HasRead}
use Rattle.sat_pieces.proofs.stream.read_script.Given as goal

abbrev pub invariant-loop-taken : goal.invariant-loop-taken
invariant-loop-taken g l =
    (known_fault l.reader ≡ None) × (g.S.Source.faults l.initial.source ≤ g.S.Source.faults l.source)
    × HasRead l.initial.live (g.S.Source.left l.initial.source) (g.S.Source.left l.source) (will_be l.reader) l.taken × (l.taken ≤ bytes_of l.reader) × (bytes_of l.reader ≤ MOST_BYTES) × LacksOnlyItsEnd (will_be l.reader []) × (g.S.Source.ends l.source ≡ g.S.Source.ends l.initial.source)

abbrev pub decreases-loop-taken : goal.decreases-loop-taken
decreases-loop-taken g l = 268435456 - l.taken
