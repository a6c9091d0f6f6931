use Rattle.std.proofs.Common.{◌≡◌, ◌++◌, take}
use Rattle.sat_finish.specs.Marks.{read_at}
use Rattle.sat_finish.specs.Parts.{hub_part}
use Rattle.sat_finish.proofs.hub_parts.add_parts.Given as goal

abbrev pub invariant-loop-mark : goal.invariant-loop-mark
invariant-loop-mark g l = l.list.items ≡ l.initial.list.items ++ read_at (hub_part l.d l.site l.gear) l.journal (take l.mark-index l.marks)
