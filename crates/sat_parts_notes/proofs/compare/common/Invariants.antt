use Rattle.std.proofs.Common.{◌≡◌, take}
use Rattle.sat_parts_notes.proofs.compare.common.Given as goal

abbrev pub invariant-loop-place : goal.invariant-loop-place
invariant-loop-place l = take l.place l.nodes ≡ take l.place l.sessions
