use Rattle.std.proofs.Common.{length}
use Rattle.sat_passes.proofs.beats.+same_points.Given as goal

abbrev pub decreases-same_points : goal.decreases-same_points
decreases-same_points l = length l.a.now
