use Rattle.std.proofs.Common.{length}
use Rattle.sat_parts_pump.proofs.collecting.+any_due.Given as goal

abbrev pub decreases-any_due : goal.decreases-any_due
decreases-any_due g l = length l.gears.now
