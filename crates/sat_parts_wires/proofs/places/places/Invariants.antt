use Rattle.std.proofs.Common.{◌≡◌, map, take}
use Rattle.sat_parts_wires.specs.Lanes.{place_behind}
use Rattle.sat_parts_wires.proofs.places.places.Given as goal

abbrev pub invariant-loop-lane : goal.invariant-loop-lane
invariant-loop-lane l = l.places.items ≡ map (place_behind l.first l.all) (take l.lane-index l.own)
