use Rattle.std.proofs.Common.{length}
use Rattle.sat_node.proofs.joint.+most_of.Given as goal

abbrev pub decreases-most_of : goal.decreases-most_of
decreases-most_of g l = length l.nodes.now
