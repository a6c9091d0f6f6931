use Rattle.std.proofs.Common.{◌≡◌, take}
use Rattle.sat_finish.proofs.same.same_places.Given as goal

abbrev pub invariant-loop-place : goal.invariant-loop-place
invariant-loop-place l = take l.place l.a.values ≡ take l.place l.b.values
