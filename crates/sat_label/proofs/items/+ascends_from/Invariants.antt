use Rattle.std.proofs.Common.{length}
use Rattle.sat_label.proofs.items.+ascends_from.Given as goal

abbrev pub decreases-ascends_from : goal.decreases-ascends_from
decreases-ascends_from l = length l.items.now
