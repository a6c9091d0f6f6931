use Rattle.std.proofs.Common.{length}
use Rattle.sat_parts_passes.proofs.parts.+add_parts.Given as goal

abbrev pub decreases-add_parts : goal.decreases-add_parts
decreases-add_parts g l = length l.gears.now
