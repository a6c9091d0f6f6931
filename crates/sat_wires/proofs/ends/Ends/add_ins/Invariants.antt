use Rattle.std.proofs.Common.{◌++◌, take}
use Rattle.sat_node.specs.Links.{in_places}
use Rattle.sat_wires.proofs.Pairs.{AreIns}
use Rattle.sat_wires.proofs.ends.Ends.add_ins.Given as goal

abbrev pub invariant-loop-place : goal.invariant-loop-place
invariant-loop-place g l = AreIns (in_places l.initial.ins.items ++ take l.place-index l.places) l.ins.items
