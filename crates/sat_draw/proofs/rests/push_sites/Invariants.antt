use Rattle.std.proofs.Common.{◌≡◌, ◌++◌}
use Rattle.sat_draw.specs.Rests.{site_rests}
use Rattle.sat_draw.specs.Tracks.{spot_by}
use Rattle.sat_draw.proofs.rests.push_sites.Given as goal

abbrev pub invariant-loop-site : goal.invariant-loop-site
invariant-loop-site l = l.out.items ≡ l.fn.out.items ++ site_rests (spot_by l.under_way) l.y l.site
