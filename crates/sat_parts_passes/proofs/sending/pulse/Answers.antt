use Rattle.sat_parts_passes.proofs.Idling.{pulsed_emit, pulsed_none}
use Rattle.sat_parts_passes.proofs.sending.pulse.Goals as goal

pub returns-clause-none : goal.returns-clause-none
returns-clause-none g c = pulsed_none _ _ _ _ c.in_default.ensures.follows

pub returns-clause-emit : goal.returns-clause-emit
returns-clause-emit g c = pulsed_emit _ _ _ _ c.in_default.ensures.follows
