use Rattle.std.proofs.Common.{length}
use Rattle.sat_process.proofs.site.+trees.Given as goal

abbrev pub decreases-trees : goal.decreases-trees
decreases-trees l = length l.plans.now
