use Rattle.std.proofs.Common.{◌≡◌, ◌++◌, take}
use Rattle.sat_draw.specs.Rows.{begin, arrows}
use Rattle.sat_draw.specs.Tracks.{spot_by}
use Rattle.sat_draw.proofs.rows.push_arrows.Given as goal

abbrev pub invariant-loop-coming : goal.invariant-loop-coming
invariant-loop-coming l = l.out.items ≡ l.fn.out.items ++ arrows (begin l.d (spot_by l.spots)) l.here (take l.coming-index l.all)
