use Rattle.std.proofs.Common.{◌≡◌, ◌≤◌, ◌*◌, take, sum_by}
use Rattle.sat_place.specs.Ways.{added_cost}
use Rattle.sat_place.proofs.known.added.Given as goal

abbrev pub invariant-loop-way : goal.invariant-loop-way
invariant-loop-way l = (l.total ≡ sum_by (added_cost l.d l.places) (take l.way-index l.ways)) × (l.total ≤ 100000000000000 * l.way-index)
