use Rattle.std.proofs.Common.{rules, ◌≡◌, ◌<◌, ◌==◌, ◌||◌, ℕ, Bool, false, sym}
use Rattle.sat_pool.specs.Pool.{labels_waiting}
use Rattle.sat_act.specs.Parts.{best_passes}
use Rattle.sat_act.specs.Answers.{is_drained}
use Rattle.sat_proxy.specs.Helps.{told_by}
use Rattle.sat_proxy.proofs.Others.{all_stops}
use Rattle.sat_proxy.proofs.asks.are_drained.Goals as goal

pub returns-then-not-is_left : goal.returns-then-not-is_left
returns-then-not-is_left c =
    let test : ℕ → Bool = λ i. (i == c.args.own) || best_passes (told_by c.args.beats.now i) (is_drained c.args.view (labels_waiting c.args.pool.now) i) in
    let fails : test c.loop-site.site ≡ false = search rules in
    let low : c.loop-site.site < c.args.sites = search rules in
    sym (all_stops test c.loop-site.site c.args.sites fails low)
