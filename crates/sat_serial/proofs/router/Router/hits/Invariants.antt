use Rattle.std.proofs.Common.{◌≡◌, filter}
use Rattle.sat_label.specs.Words.{below}
use Rattle.sat_serial.specs.Routes.{goes}
use Rattle.sat_serial.specs.Hits.{hit_at}
use Rattle.sat_serial.proofs.router.Router.hits.Given as goal

abbrev pub invariant-loop-place : goal.invariant-loop-place
invariant-loop-place l = l.hits ≡ filter (hit_at (goes l.interest l.self.tree l.self.number l.from l.label) l.neighbour-items) (below l.place)
