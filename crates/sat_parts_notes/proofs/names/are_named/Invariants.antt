use Rattle.std.proofs.Common.{◌≡◌, map, take}
use Rattle.sat_opened.specs.Opened.{name_in}
use Rattle.sat_parts_notes.proofs.names.are_named.Given as goal

abbrev pub invariant-loop-place : goal.invariant-loop-place
invariant-loop-place g l = map name_in (take l.place l.nodes) ≡ take l.place l.names
