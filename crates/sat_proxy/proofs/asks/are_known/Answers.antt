use Rattle.std.proofs.Common.{rules, ◌≡◌, ◌<◌, ◌==◌, ◌||◌, ℕ, Bool, false, sym}
use Rattle.sat_label.specs.Order.{mark, point_le}
use Rattle.sat_proxy.specs.Helps.{known_to}
use Rattle.sat_proxy.proofs.Others.{all_stops}
use Rattle.sat_proxy.proofs.asks.are_known.Goals as goal

pub returns-then-not-is_known : goal.returns-then-not-is_known
returns-then-not-is_known c =
    let test : ℕ → Bool = λ i. (i == c.args.own) || point_le (mark c.args.ts i) (known_to c.args.last.now i) in
    let fails : test c.loop-site.site ≡ false = search rules in
    let low : c.loop-site.site < c.args.sites = search rules in
    sym (all_stops test c.loop-site.site c.args.sites fails low)
