use Rattle.std.proofs.Common.{◌≡◌, ◌==◌, ◌||◌, true}
use Rattle.std.specs.List.{list_all}
use Rattle.sat_label.specs.Words.{below}
use Rattle.sat_pool.specs.Pool.{labels_waiting}
use Rattle.sat_act.specs.Parts.{best_passes}
use Rattle.sat_act.specs.Answers.{is_drained}
use Rattle.sat_proxy.specs.Helps.{told_by}
use Rattle.sat_proxy.proofs.asks.are_drained.Given as goal

abbrev pub invariant-loop-site : goal.invariant-loop-site
invariant-loop-site l = list_all (λ i. (i == l.own) || best_passes (told_by l.beats i) (is_drained l.view (labels_waiting l.pool) i)) (below l.site) ≡ true
