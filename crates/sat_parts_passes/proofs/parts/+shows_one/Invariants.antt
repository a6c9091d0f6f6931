use Rattle.std.proofs.Common.{length}
use Rattle.sat_parts_passes.proofs.parts.+shows_one.Given as goal

abbrev pub decreases-shows_one : goal.decreases-shows_one
decreases-shows_one l = length l.items.now
