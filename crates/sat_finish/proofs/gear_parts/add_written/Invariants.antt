use Rattle.std.proofs.Common.{◌≡◌, ◌++◌, take}
use Rattle.sat_finish.specs.Marks.{read_at}
use Rattle.sat_finish.specs.Parts.{written_part}
use Rattle.sat_finish.proofs.gear_parts.add_written.Given as goal

abbrev pub invariant-loop-mark : goal.invariant-loop-mark
invariant-loop-mark g l = l.list.items ≡ l.initial.list.items ++ read_at (written_part l.d l.site l.home l.gear) l.journal (take l.mark-index l.marks)
