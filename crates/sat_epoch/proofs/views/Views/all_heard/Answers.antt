use Rattle.std.proofs.Common.{rules, ◌≡◌, ◌<◌, false, sym, length}
use Rattle.sat_epoch.specs.Epochs.{was_heard}
use Rattle.sat_epoch.proofs.AllBelow.{all_stops}
use Rattle.sat_epoch.proofs.views.Views.all_heard.Goals as goal

pub returns-then-not-was_heard : goal.returns-then-not-was_heard
returns-then-not-was_heard c =
    let fails : was_heard c.args.self.now c.loop-site.site ≡ false = search rules in
    let low : c.loop-site.site < length c.args.self.now.heard = search rules in
    sym (all_stops (was_heard c.args.self.now) c.loop-site.site (length c.args.self.now.heard) fails low)
