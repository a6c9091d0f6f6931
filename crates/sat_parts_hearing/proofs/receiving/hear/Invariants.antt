use Rattle.std.proofs.Common.{List}
use Rattle.sat_node.specs.declared.kept.Envelope.{Envelope}
use Rattle.sat_parts_hearing.specs.Along.{HeardAt}
use Rattle.sat_parts_hearing.specs.Hearings.{Heard}
use Rattle.sat_parts_hearing.proofs.receiving.hear.Given as goal

abbrev pub invariant-hearing : goal.invariant-hearing
invariant-hearing g l = Heard l.fn.held l.held × ((cs : List Envelope) × HeardAt g.N.Laid.deployment l.source l.link cs l.fn.held l.held)
