use Rattle.std.proofs.Common.{length}
use Rattle.sat_draw.proofs.columns.+plans_height.Given as goal

abbrev pub decreases-plans_height : goal.decreases-plans_height
decreases-plans_height l = length l.plans.now
