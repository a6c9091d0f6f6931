use Rattle.std.proofs.Common.{◌≡◌, ◌++◌, ℕ, Some, take}
use Rattle.sat_finish.specs.Marks.{read_at}
use Rattle.sat_finish.specs.Parts.{kept_part}
use Rattle.sat_finish.proofs.gear_parts.add_handed.Given as goal

abbrev pub invariant-loop-mark : goal.invariant-loop-mark
invariant-loop-mark g l = (n : ℕ) → l.list.items ≡ l.initial.list.items ++ read_at (kept_part l.site n (Some l.home)) l.journal (take l.mark-index l.marks)
