use Rattle.std.proofs.Common.{◌≡◌, ◌++◌}
use Rattle.sat_draw.specs.Head.{site_lanes}
use Rattle.sat_draw.proofs.head.push_site_lanes.Given as goal

abbrev pub invariant-loop-site : goal.invariant-loop-site
invariant-loop-site l = l.out.items ≡ l.fn.out.items ++ site_lanes l.d l.top l.bottom l.site
