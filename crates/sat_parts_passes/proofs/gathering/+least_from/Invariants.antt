use Rattle.std.proofs.Common.{length}
use Rattle.sat_parts_passes.proofs.gathering.+least_from.Given as goal

abbrev pub decreases-least_from : goal.decreases-least_from
decreases-least_from l = length l.drained.now
