use Rattle.std.proofs.Common.{◌≡◌, ◌++◌, take}
use Rattle.std.specs.List.{flat_map}
use Rattle.sat_session.specs.Notes.{notes_at_serial}
use Rattle.sat_parts_notes.proofs.notes.add_serials.Given as goal

abbrev pub invariant-loop-serial : goal.invariant-loop-serial
invariant-loop-serial g l = l.list.items ≡ l.initial.list.items ++ flat_map notes_at_serial (take l.serial-index l.serials)
