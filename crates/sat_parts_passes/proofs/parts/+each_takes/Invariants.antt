use Rattle.std.proofs.Common.{length}
use Rattle.sat_parts_passes.proofs.parts.+each_takes.Given as goal

abbrev pub decreases-each_takes : goal.decreases-each_takes
decreases-each_takes g l = length l.gears.now
