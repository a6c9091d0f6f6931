use Rattle.std.proofs.Common.{◌≡◌, take}
use Rattle.sat_draw.specs.Moved.{smalls}
use Rattle.sat_draw.proofs.moved.smalls.Given as goal

abbrev pub invariant-loop-one : goal.invariant-loop-one
invariant-loop-one l = l.all.items ≡ smalls l.d (take l.one-index l.moved)
