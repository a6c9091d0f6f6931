use Rattle.std.specs.Prelude.{◌≡◌, drop}
use Rattle.sat_site.specs.Turns.{TurnsOn}
use Rattle.sat_site.proofs.site.Site.turn_labels.Given as goal

abbrev pub invariant-labels : goal.invariant-labels
invariant-labels l = TurnsOn l.initial.self l.initial.labels.members l.done l.shown l.self × (l.labels.members ≡ drop l.done l.initial.labels.members)
