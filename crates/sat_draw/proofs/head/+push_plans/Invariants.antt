use Rattle.std.proofs.Common.{length}
use Rattle.sat_draw.proofs.head.+push_plans.Given as goal

abbrev pub decreases-push_plans : goal.decreases-push_plans
decreases-push_plans l = length l.plans.now
