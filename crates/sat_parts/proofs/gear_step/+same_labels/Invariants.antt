use Rattle.std.proofs.Common.{length}
use Rattle.sat_parts.proofs.gear_step.+same_labels.Given as goal

abbrev pub decreases-same_labels : goal.decreases-same_labels
decreases-same_labels l = length l.a.now
