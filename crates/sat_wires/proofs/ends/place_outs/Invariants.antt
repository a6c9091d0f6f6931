use Rattle.std.proofs.Common.{◌≡◌, length}
use Rattle.sat_wires.specs.Ends.{AllOuts}
use Rattle.sat_wires.proofs.ends.place_outs.Given as goal

abbrev pub invariant-loop-link : goal.invariant-loop-link
invariant-loop-link g l = (length l.ends.items ≡ length l.yielded) × AllOuts l.ends.items
