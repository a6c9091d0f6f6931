use Rattle.std.proofs.Common.{◌≡◌, ◌++◌, take}
use Rattle.std.specs.List.{flat_map}
use Rattle.sat_parts_notes.specs.Notes.{gear_owned}
use Rattle.sat_parts_notes.proofs.notes.add_gear_notes.Given as goal

abbrev pub invariant-loop-kept : goal.invariant-loop-kept
invariant-loop-kept g l = l.list.items ≡ l.initial.list.items ++ flat_map (gear_owned l.name) (take l.kept-index l.journal)
