use Rattle.std.proofs.Common.{◌≡◌, ◌++◌, take}
use Rattle.std.specs.List.{flat_map}
use Rattle.sat_parts_notes.specs.Notes.{notes_at_gear}
use Rattle.sat_parts_notes.proofs.notes.add_gears.Given as goal

abbrev pub invariant-loop-gear : goal.invariant-loop-gear
invariant-loop-gear g l = l.list.items ≡ l.initial.list.items ++ flat_map notes_at_gear (take l.gear-index l.gears)
