use Rattle.std.proofs.Common.{◌≡◌, ◌++◌, List, map, take}
use Rattle.sat_joint.specs.Seen.{seen}
use Rattle.sat_parts_notes.specs.Collecting.{Lines, lines_at_gear, at_places}
use Rattle.sat_parts_notes.proofs.journals.add_gears.Given as goal

abbrev pub invariant-loop-gear : goal.invariant-loop-gear
invariant-loop-gear g l = (lines : List Lines) → map seen l.initial.list.items ≡ at_places 0 lines → map seen l.list.items ≡ at_places 0 (lines ++ map lines_at_gear (take l.gear-index l.gears))
