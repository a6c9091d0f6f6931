use Rattle.sat_parts_hearing.specs.Hearings.{Heard}
use Rattle.sat_parts_hearing.proofs.Order.{HeardFirst}
use Rattle.sat_parts_hearing.proofs.receiving.hear_all.Given as goal

abbrev pub invariant-loop-number : goal.invariant-loop-number
invariant-loop-number g l = Heard l.fn.held l.held × HeardFirst g.N.Laid.deployment l.number l.fn.held l.held
