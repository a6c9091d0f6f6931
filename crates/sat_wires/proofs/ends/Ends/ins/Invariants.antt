use Rattle.std.proofs.Common.{map, take}
use Rattle.sat_wires.specs.Ways.{link_of, place_back_in}
use Rattle.sat_wires.proofs.Pairs.{AreIns}
use Rattle.sat_wires.proofs.ends.Ends.ins.Given as goal

abbrev pub invariant-loop-way : goal.invariant-loop-way
invariant-loop-way g l = AreIns (map (place_back_in l.all) (map link_of (take l.way-index l.way-items))) l.ins.items
