use Rattle.std.proofs.Common.{◌≡◌, take}
use Rattle.sat_parts_notes.specs.Collecting.{alone_lines}
use Rattle.sat_parts_notes.proofs.journals.alone.Given as goal

abbrev pub invariant-loop-noted : goal.invariant-loop-noted
invariant-loop-noted l = l.list ≡ alone_lines (take l.noted-index l.notes)
