use Rattle.std.proofs.Common.{◌≡◌, ◌++◌, take}
use Rattle.sat_session.specs.Notes.{serial_notes}
use Rattle.sat_parts_notes.proofs.notes.add_serial_notes.Given as goal

abbrev pub invariant-loop-place : goal.invariant-loop-place
invariant-loop-place l = l.list.items ≡ l.initial.list.items ++ serial_notes l.name (take l.place l.journal)
