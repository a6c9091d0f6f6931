use Rattle.std.proofs.Common.{◌≡◌, length}
use Rattle.sat_wires.specs.Ends.{ArePairs}
use Rattle.sat_wires.proofs.wires.make_pairs.Given as goal

abbrev pub invariant-pairs : goal.invariant-pairs
invariant-pairs l = (length l.pairs.ins.items ≡ l.counter) × ArePairs l.capacity l.pairs.ins.items l.pairs.outs.items
