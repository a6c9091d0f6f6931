use Rattle.std.proofs.Common.{◌≡◌, map, take}
use Rattle.sat_world.specs.Starts.{seated}
use Rattle.sat_world.proofs.start.clients.Given as goal

abbrev pub invariant-loop-line : goal.invariant-loop-line
invariant-loop-line l = l.clients.items ≡ map seated (take l.line-index l.line-items)
