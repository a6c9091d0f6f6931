use Rattle.std.proofs.Common.{◌≡◌, ◌++◌}
use Rattle.sat_draw.specs.Head.{seats_elements}
use Rattle.sat_draw.proofs.head.push_seats.Given as goal

abbrev pub invariant-loop-site : goal.invariant-loop-site
invariant-loop-site l = l.out.items ≡ l.fn.out.items ++ seats_elements l.d l.epoch l.y l.tree l.site
