use Rattle.std.proofs.Common.{length}
use Rattle.sat_host.proofs.making.+add_trees.Given as goal

abbrev pub decreases-add_trees : goal.decreases-add_trees
decreases-add_trees g l = length l.plans.now
