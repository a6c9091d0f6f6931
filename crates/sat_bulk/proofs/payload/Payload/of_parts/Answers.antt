use Rattle.sat_bulk.proofs.Payloads.{part-labels, part-payload}
use Rattle.sat_bulk.proofs.payload.Payload.of_parts.Goals as goal

pub invariant_of-result-2 : goal.invariant_of-result-2
invariant_of-result-2 c = part-labels _ _ _ _ _ c.in_ok-group.ensures.label c.in_ok-group.ensures.parts c.in_ok-parts.ensures

pub returns : goal.returns
returns c = part-payload _ _ _ _ _ c.in_ok-group.ensures.label c.in_ok-group.ensures.parts c.in_ok-parts.ensures
