use Rattle.std.proofs.Common.{◌≡◌, ◌==◌, ◌||◌, true}
use Rattle.std.specs.List.{list_all}
use Rattle.sat_label.specs.Words.{below}
use Rattle.sat_act.specs.Parts.{best_passes, reaches}
use Rattle.sat_proxy.specs.Helps.{told_by}
use Rattle.sat_proxy.proofs.asks.are_reached.Given as goal

abbrev pub invariant-loop-site : goal.invariant-loop-site
invariant-loop-site l = list_all (λ i. (i == l.own) || best_passes (told_by l.beats i) (reaches l.view l.ts i)) (below l.site) ≡ true
