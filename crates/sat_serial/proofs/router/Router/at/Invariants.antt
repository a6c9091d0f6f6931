use Rattle.std.proofs.Common.{◌≡◌, take}
use Rattle.sat_serial.specs.Hits.{nodes_at}
use Rattle.sat_serial.proofs.router.Router.at.Given as goal

abbrev pub invariant-loop-place : goal.invariant-loop-place
invariant-loop-place l = l.nodes ≡ nodes_at l.neighbours (take l.place-index l.places)
