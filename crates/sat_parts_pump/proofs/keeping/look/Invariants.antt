use Rattle.std.proofs.Common.{◌≡◌, drop}
use Rattle.sat_parts_pump.specs.Times.{most_in}
use Rattle.sat_parts_pump.proofs.keeping.look.Given as goal

abbrev pub invariant-loop-at : goal.invariant-loop-at
invariant-loop-at g l = most_in l.most (drop l.at l.journal) ≡ most_in l.ts (drop l.upto l.journal)
