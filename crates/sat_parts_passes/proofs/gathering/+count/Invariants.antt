use Rattle.std.proofs.Common.{length}
use Rattle.sat_parts_passes.proofs.gathering.+count.Given as goal

abbrev pub decreases-count : goal.decreases-count
decreases-count l = length l.drained.now
