use Rattle.std.proofs.Common.{◌≡◌, map}
use Rattle.sat_label.specs.Words.{below}
use Rattle.sat_serial.specs.Hits.{site_place}
use Rattle.sat_serial.proofs.router.site_places.Given as goal

abbrev pub invariant-loop-site : goal.invariant-loop-site
invariant-loop-site l = l.places.items ≡ map (site_place l.tree l.number) (below l.site)
