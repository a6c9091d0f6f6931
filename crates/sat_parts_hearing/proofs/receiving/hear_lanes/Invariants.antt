use Rattle.sat_parts_hearing.specs.Along.{HeardGears}
use Rattle.sat_parts_hearing.specs.Hearings.{Heard}
use Rattle.sat_parts_hearing.proofs.receiving.hear_lanes.Given as goal

abbrev pub invariant-loop-gear : goal.invariant-loop-gear
invariant-loop-gear g l = Heard l.fn.held l.held × HeardGears g.N.Laid.deployment l.number l.gear l.fn.held l.held
