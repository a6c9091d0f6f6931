use Rattle.std.proofs.Common.{◌≡◌, map}
use Rattle.sat_label.specs.Words.{below}
use Rattle.sat_serial.specs.Hits.{serializer_place}
use Rattle.sat_serial.proofs.router.serializer_places.Given as goal

abbrev pub invariant-loop-serializer : goal.invariant-loop-serializer
invariant-loop-serializer l = l.places.items ≡ map (serializer_place l.tree l.number) (below l.serializer)
