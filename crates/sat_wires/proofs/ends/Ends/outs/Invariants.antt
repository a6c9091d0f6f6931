use Rattle.std.proofs.Common.{map, take}
use Rattle.sat_wires.specs.Ways.{link_of, place_in}
use Rattle.sat_wires.proofs.Pairs.{AreOuts}
use Rattle.sat_wires.proofs.ends.Ends.outs.Given as goal

abbrev pub invariant-loop-way : goal.invariant-loop-way
invariant-loop-way g l = AreOuts (map (place_in l.all) (map link_of (take l.way-index l.way-items))) l.outs.items
