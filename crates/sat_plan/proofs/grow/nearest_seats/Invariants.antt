use Rattle.std.proofs.Common.{◌≡◌, map}
use Rattle.sat_label.specs.Words.{below}
use Rattle.sat_plan.specs.Steps.{nearest}
use Rattle.sat_plan.proofs.grow.nearest_seats.Given as goal

abbrev pub invariant-loop-site : goal.invariant-loop-site
invariant-loop-site l = l.seats.items ≡ map (nearest l.d l.places) (below l.site)
