use Rattle.std.proofs.Common.{length}
use Rattle.sat_parts.proofs.gear_step.+same_counts.Given as goal

abbrev pub decreases-same_counts : goal.decreases-same_counts
decreases-same_counts l = length l.counts.now
