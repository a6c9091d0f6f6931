use Rattle.std.proofs.Common.{◌≡◌, map}
use Rattle.sat_label.specs.Least.{least_label}
use Rattle.sat_pool.specs.Pool.{labelled}
use Rattle.sat_proxy.specs.Helps.{in_view, waiting_below}
use Rattle.sat_proxy.proofs.asks.candidate.Given as goal

abbrev pub invariant-loop-site : goal.invariant-loop-site
invariant-loop-site l = l.least ≡ least_label (in_view l.beats l.view) (map labelled (waiting_below l.pool l.site))
