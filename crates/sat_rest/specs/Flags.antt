-- Histories without the flags of their entries.
use Rattle.std.specs.Prelude.{false, List, [], ◌∷◌}
use Rattle.sat_act.specs.declared.entry.Entry.{Entry}

-- an entry as if no settle had made it
abbrev pub unflagged : Entry → Entry
unflagged entry = record { act = entry.act; answer = entry.answer; inner = false }

-- a history of such entries: two histories that are one here differ in flags alone
abbrev pub without_flags : List Entry → List Entry
without_flags [] = []
without_flags (entry ∷ before) = unflagged entry ∷ without_flags before
