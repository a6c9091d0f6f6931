use Rattle.std.proofs.Common.{length}
use Rattle.sat_parts_passes.proofs.gathering.+add_given.Given as goal

abbrev pub decreases-add_given : goal.decreases-add_given
decreases-add_given g l = length l.gears.now
