use Rattle.std.proofs.Common.{◌≡◌, ◌++◌, take}
use Rattle.std.specs.List.{flat_map}
use Rattle.sat_parts_notes.specs.Notes.{notes_at_hub}
use Rattle.sat_parts_notes.proofs.notes.add_hubs.Given as goal

abbrev pub invariant-loop-hub : goal.invariant-loop-hub
invariant-loop-hub g l = l.list.items ≡ l.initial.list.items ++ flat_map notes_at_hub (take l.hub-index l.hubs)
