use Rattle.std.proofs.Common.{◌≡◌, map}
use Rattle.sat_label.specs.Words.{below}
use Rattle.sat_plan.specs.Routes.{site_access}
use Rattle.sat_plan.proofs.routes.access.Given as goal

abbrev pub invariant-loop-site : goal.invariant-loop-site
invariant-loop-site l = l.list.items ≡ map (site_access l.d l.tree l.places) (below l.site)
