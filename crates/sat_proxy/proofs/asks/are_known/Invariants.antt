use Rattle.std.proofs.Common.{◌≡◌, ◌==◌, ◌||◌, true}
use Rattle.std.specs.List.{list_all}
use Rattle.sat_label.specs.Order.{mark, point_le}
use Rattle.sat_label.specs.Words.{below}
use Rattle.sat_proxy.specs.Helps.{known_to}
use Rattle.sat_proxy.proofs.asks.are_known.Given as goal

abbrev pub invariant-loop-site : goal.invariant-loop-site
invariant-loop-site l = list_all (λ i. (i == l.own) || point_le (mark l.ts i) (known_to l.last i)) (below l.site) ≡ true
