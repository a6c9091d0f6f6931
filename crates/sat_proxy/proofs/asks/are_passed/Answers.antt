use Rattle.std.proofs.Common.{rules, ◌≡◌, ◌<◌, ◌==◌, ◌||◌, ℕ, Bool, false, sym}
use Rattle.sat_act.specs.Parts.{best_passes, passed_ts}
use Rattle.sat_proxy.specs.Helps.{told_by}
use Rattle.sat_proxy.proofs.Others.{all_stops}
use Rattle.sat_proxy.proofs.asks.are_passed.Goals as goal

pub returns-then-not-is_passed : goal.returns-then-not-is_passed
returns-then-not-is_passed c =
    let test : ℕ → Bool = λ i. (i == c.args.own) || best_passes (told_by c.args.beats.now i) (passed_ts c.args.view c.args.ts i) in
    let fails : test c.loop-site.site ≡ false = search rules in
    let low : c.loop-site.site < c.args.sites = search rules in
    sym (all_stops test c.loop-site.site c.args.sites fails low)
