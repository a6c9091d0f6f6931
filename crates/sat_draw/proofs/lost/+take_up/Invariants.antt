use Rattle.std.proofs.Common.{length}
use Rattle.sat_draw.proofs.lost.+take_up.Given as goal

abbrev pub decreases-take_up : goal.decreases-take_up
decreases-take_up l = length l.all.now
