use Rattle.sat_parts_passes.proofs.Idling.{emitted_less}
use Rattle.sat_parts_passes.proofs.sending.emit.Goals as goal

pub returns-clause-less : goal.returns-clause-less
returns-clause-less g c = λ done. emitted_less _ _ _ _ c.in_default.ensures.follows
