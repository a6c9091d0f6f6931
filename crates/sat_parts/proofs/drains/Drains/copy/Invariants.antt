use Rattle.std.proofs.Common.{◌≡◌, take}
use Rattle.sat_parts.proofs.drains.Drains.copy.Given as goal

abbrev pub invariant-loop-given : goal.invariant-loop-given
invariant-loop-given l = l.members.items ≡ take l.given-index l.given-items
