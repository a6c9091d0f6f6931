use Rattle.std.proofs.Common.{true, refl}
use Rattle.sat_site.proofs.Fronts.{update-shown}
use Rattle.sat_site.proofs.site.Site.turn_one.Goals as goal

pub returns-then-show_update-clause-shown : goal.returns-then-show_update-clause-shown
returns-then-show_update-clause-shown c = update-shown c.args.self.now c.args.label.now _ true c.args.shown c.requires.tree c.in-Update.is c.if-show_update.ensures.waits refl
