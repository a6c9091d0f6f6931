use Rattle.std.proofs.Common.{length}
use Rattle.sat_parts_pump.proofs.coming.+link_from.Given as goal

abbrev pub decreases-link_from : goal.decreases-link_from
decreases-link_from l = length l.plans.now
