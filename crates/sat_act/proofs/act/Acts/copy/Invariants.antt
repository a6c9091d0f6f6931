use Rattle.std.proofs.Common.{◌≡◌, take}
use Rattle.sat_act.proofs.act.Acts.copy.Given as goal

abbrev pub invariant-loop-member : goal.invariant-loop-member
invariant-loop-member l = l.copy ≡ take l.member-index l.member-items
