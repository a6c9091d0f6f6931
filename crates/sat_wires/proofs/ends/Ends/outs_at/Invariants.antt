use Rattle.std.proofs.Common.{take}
use Rattle.sat_wires.proofs.Pairs.{AreOuts}
use Rattle.sat_wires.proofs.ends.Ends.outs_at.Given as goal

abbrev pub invariant-loop-place : goal.invariant-loop-place
invariant-loop-place g l = AreOuts (take l.place-index l.places) l.outs.items
