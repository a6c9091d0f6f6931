use Rattle.std.proofs.Common.{◌≡◌, ◌+◌, take, sum_by}
use Rattle.sat_chain.specs.Chained.{ways_on}
use Rattle.sat_chain.proofs.tail.applied_by_links.Given as goal

abbrev pub invariant-loop-place : goal.invariant-loop-place
invariant-loop-place l = l.left + sum_by (ways_on l.interest l.tree l.z) (take l.place l.list) ≡ l.put
