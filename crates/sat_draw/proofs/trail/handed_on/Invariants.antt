use Rattle.std.proofs.Common.{◌≡◌, map, take}
use Rattle.sat_draw.specs.Trails.{toward}
use Rattle.sat_draw.proofs.trail.handed_on.Given as goal

abbrev pub invariant-loop-node : goal.invariant-loop-node
invariant-loop-node l = l.trails.items ≡ map (toward l.label) (take l.node-index l.to)
