use Rattle.std.proofs.Common.{◌≡◌, ◌++◌, take}
use Rattle.sat_draw.specs.Lost.{sendings_at}
use Rattle.sat_draw.proofs.lost.push_sendings.Given as goal

abbrev pub invariant-loop-trail : goal.invariant-loop-trail
invariant-loop-trail l = l.out.items ≡ l.fn.out.items ++ sendings_at l.here (take l.trail-index l.trails)
