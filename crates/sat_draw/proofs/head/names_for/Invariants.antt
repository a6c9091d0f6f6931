use Rattle.std.proofs.Common.{◌≡◌, take}
use Rattle.sat_draw.specs.Head.{names_for}
use Rattle.sat_draw.proofs.head.names_for.Given as goal

abbrev pub invariant-loop-client : goal.invariant-loop-client
invariant-loop-client l = l.names.items ≡ names_for (take l.client-index l.clients) l.site
