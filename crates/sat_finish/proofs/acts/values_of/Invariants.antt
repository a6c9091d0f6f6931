use Rattle.std.proofs.Common.{◌≡◌, map, take}
use Rattle.sat_finish.proofs.Parted.{value_of}
use Rattle.sat_finish.proofs.acts.values_of.Given as goal

abbrev pub invariant-loop-place : goal.invariant-loop-place
invariant-loop-place l = l.values.items ≡ map value_of (take l.place l.payload.values)
