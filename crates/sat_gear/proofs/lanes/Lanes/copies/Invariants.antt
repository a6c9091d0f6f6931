use Rattle.std.proofs.Common.{◌≡◌, [], drop, get_or, take}
use Rattle.sat_gear.proofs.lanes.Lanes.copies.Given as goal

abbrev pub invariant-loop-offset : goal.invariant-loop-offset
invariant-loop-offset l = l.copies.items ≡ take l.offset (drop l.number (get_or l.self l.site []))
