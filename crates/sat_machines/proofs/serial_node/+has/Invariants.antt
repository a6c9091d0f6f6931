use Rattle.std.proofs.Common.{length}
use Rattle.sat_machines.proofs.serial_node.+has.Given as goal

abbrev pub decreases-has : goal.decreases-has
decreases-has l = length l.nodes.now
