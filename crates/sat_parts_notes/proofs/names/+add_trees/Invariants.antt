use Rattle.std.proofs.Common.{length}
use Rattle.sat_parts_notes.proofs.names.+add_trees.Given as goal

abbrev pub decreases-add_trees : goal.decreases-add_trees
decreases-add_trees l = length l.plans.now
