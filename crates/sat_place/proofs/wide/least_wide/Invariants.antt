use Rattle.std.proofs.Common.{◌≡◌, ◌-◌, [], length}
use Rattle.sat_place.specs.Search.{tried}
use Rattle.sat_place.specs.Ways.{known}
use Rattle.sat_place.proofs.wide.least_wide.Given as goal

abbrev pub invariant-loop-block : goal.invariant-loop-block
invariant-loop-block g l = l.best ≡ tried (known l.d l.ways.items) l.d.places (length l.tree.parents - 1) [] l.initial.best l.block-index
