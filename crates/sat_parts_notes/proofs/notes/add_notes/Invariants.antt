use Rattle.std.proofs.Common.{◌≡◌, ◌++◌, take}
use Rattle.sat_session.specs.Notes.{own_notes}
use Rattle.sat_parts_notes.specs.Filing.{owner_in}
use Rattle.sat_parts_notes.proofs.notes.add_notes.Given as goal

abbrev pub invariant-loop-noted : goal.invariant-loop-noted
invariant-loop-noted l = l.list.items ≡ l.initial.list.items ++ own_notes (owner_in l.client) (take l.noted-index l.notes)
