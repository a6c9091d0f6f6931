use Rattle.std.proofs.Common.{◌≡◌, ◌≤◌, ◌+◌, ◌-◌, length}
use Rattle.std.specs.Io.KnownBytes.{Consumes}
use Rattle.sat_top.proofs.stream.read_past.Given as goal

abbrev pub invariant-loop-buffer : goal.invariant-loop-buffer
invariant-loop-buffer g l =
    (g.S.Source.faults l.initial.source ≤ g.S.Source.faults l.source)
    × Consumes (g.S.Source.left l.initial.source) (g.S.Source.left l.source) l.text.items × (length l.text.items ≤ l.most + 16384) × (g.S.Source.ends l.source ≡ g.S.Source.ends l.initial.source)

abbrev pub decreases-loop-buffer : goal.decreases-loop-buffer
decreases-loop-buffer g l = l.most + 1 - length l.text.items
