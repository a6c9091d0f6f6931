use Rattle.sat_site.specs.Turns.{none}
use Rattle.sat_site.proofs.site.Site.turn_all.Goals as goal

pub returns-then-in_stamp_mode-clause-turns : goal.returns-then-in_stamp_mode-clause-turns
returns-then-in_stamp_mode-clause-turns c = none
