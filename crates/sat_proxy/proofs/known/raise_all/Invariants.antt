use Rattle.std.proofs.Common.{◌≡◌, map}
use Rattle.sat_label.specs.Words.{below}
use Rattle.sat_proxy.specs.Helps.{cut_of, raised_first}
use Rattle.sat_proxy.proofs.known.raise_all.Given as goal

abbrev pub invariant-loop-site : goal.invariant-loop-site
invariant-loop-site l = l.last ≡ map (raised_first l.initial.last (cut_of l.beats l.own l.close l.epoch) l.site) (below l.sites)
