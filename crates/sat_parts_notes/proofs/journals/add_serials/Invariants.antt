use Rattle.std.proofs.Common.{◌≡◌, ◌++◌, List, map, take}
use Rattle.sat_joint.specs.Seen.{seen}
use Rattle.sat_parts_notes.specs.Collecting.{Lines, lines_at_serial, at_places}
use Rattle.sat_parts_notes.proofs.journals.add_serials.Given as goal

abbrev pub invariant-loop-serial : goal.invariant-loop-serial
invariant-loop-serial g l = (lines : List Lines) → map seen l.initial.list.items ≡ at_places 0 lines → map seen l.list.items ≡ at_places 0 (lines ++ map lines_at_serial (take l.serial-index l.serials))
