use Rattle.std.proofs.Common.{◌≡◌, ◌++◌, map, take}
use Rattle.sat_parts_notes.specs.Collecting.{home_line}
use Rattle.sat_parts_notes.proofs.journals.add_home.Given as goal

abbrev pub invariant-loop-entry : goal.invariant-loop-entry
invariant-loop-entry l = l.list ≡ l.initial.list ++ map home_line (take l.entry-index l.entries)
