use Rattle.std.proofs.Common.{◌≡◌, length}
use Rattle.sat_finish.specs.Walking.{AreGearMarks}
use Rattle.sat_finish.proofs.site_marks.marks_gears.Given as goal

abbrev pub invariant-loop-gear : goal.invariant-loop-gear
invariant-loop-gear g l = (l.gear ≡ length l.list.items) × AreGearMarks l.gears l.site l.list.items
