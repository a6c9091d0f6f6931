use Rattle.std.proofs.Common.{◌≡◌, true}
use Rattle.std.specs.List.{list_all}
use Rattle.sat_label.specs.Words.{below}
use Rattle.sat_epoch.specs.Epochs.{was_heard}
use Rattle.sat_epoch.proofs.views.Views.all_heard.Given as goal

abbrev pub invariant-loop-site : goal.invariant-loop-site
invariant-loop-site l = list_all (was_heard l.self) (below l.site) ≡ true
