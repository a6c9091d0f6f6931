use Rattle.std.proofs.Common.{◌≡◌, filter, length, take}
use Rattle.sat_serial.specs.Routes.{goes}
use Rattle.sat_chain.proofs.tail.ways.Given as goal

abbrev pub invariant-loop-node : goal.invariant-loop-node
invariant-loop-node l = l.count ≡ length (filter (goes l.interest l.tree l.z l.pair.from l.pair.label) (take l.node-index l.node-items))
