use Rattle.std.proofs.Common.{◌≡◌, ◌++◌, map, take}
use Rattle.sat_draw.specs.Moved.{small}
use Rattle.sat_draw.proofs.moved.push_smalls.Given as goal

abbrev pub invariant-loop-haul : goal.invariant-loop-haul
invariant-loop-haul l = l.out.items ≡ l.fn.out.items ++ map (small l.d l.y) (take l.haul-index l.all)
