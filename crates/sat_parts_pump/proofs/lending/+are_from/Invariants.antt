use Rattle.std.proofs.Common.{◌-◌}
use Rattle.sat_parts_pump.proofs.lending.+are_from.Given as goal

abbrev pub decreases-are_from : goal.decreases-are_from
decreases-are_from g l = l.shape.now.gears - l.from
