use Rattle.sat_apart.specs.Lists.{SameUpTo}
use Rattle.sat_apart.proofs.walk.first_apart.Given as goal

abbrev pub invariant-loop-place : goal.invariant-loop-place
invariant-loop-place g l = SameUpTo l.place l.left l.right
