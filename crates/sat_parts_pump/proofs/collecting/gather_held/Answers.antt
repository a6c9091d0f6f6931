use Rattle.std.proofs.Common.{refl}
use Rattle.sat_parts_pump.proofs.Gathered.{gathered_more, more_as, would_more, would_not}
use Rattle.sat_parts_pump.proofs.collecting.gather_held.Goals as goal

pub returns-clause-more : goal.returns-clause-more
returns-clause-more g c = gathered_more c.gather.result g.N.Laid.deployment _ _ _ _ _ c.gather.ensures.done c.gather.ensures.same c.gather.ensures.err
