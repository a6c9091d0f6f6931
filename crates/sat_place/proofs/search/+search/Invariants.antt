use Rattle.std.proofs.Common.{◌≡◌, ◌-◌}
use Rattle.sat_place.specs.Search.{tried}
use Rattle.sat_place.specs.Ways.{known}
use Rattle.sat_place.proofs.search.+search.Given as goal

abbrev pub decreases-search : goal.decreases-search
decreases-search l = l.left

abbrev pub invariant-loop-place : goal.invariant-loop-place
invariant-loop-place l = l.best ≡ tried (known l.d l.ways) l.d.places (l.left - 1) l.front l.fn.found l.place
