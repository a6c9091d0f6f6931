use Rattle.std.proofs.Common.{length}
use Rattle.sat_draw.proofs.tracks.+leave.Given as goal

abbrev pub decreases-leave : goal.decreases-leave
decreases-leave l = length l.trails.now
