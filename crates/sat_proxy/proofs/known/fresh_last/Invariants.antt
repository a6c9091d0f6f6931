use Rattle.std.proofs.Common.{◌≡◌, map}
use Rattle.sat_label.specs.Words.{below}
use Rattle.sat_proxy.specs.Proxy.{first_point}
use Rattle.sat_proxy.proofs.known.fresh_last.Given as goal

abbrev pub invariant-loop-site : goal.invariant-loop-site
invariant-loop-site l = l.last.items ≡ map first_point (below l.site)
