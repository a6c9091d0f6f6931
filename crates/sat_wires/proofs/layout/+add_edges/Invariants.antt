use Rattle.std.proofs.Common.{length}
use Rattle.sat_wires.proofs.layout.+add_edges.Given as goal

abbrev pub decreases-add_edges : goal.decreases-add_edges
decreases-add_edges l = length l.plans.now
