use Rattle.std.proofs.Common.{length}
use Rattle.sat_audit.proofs.answers.+name_items.Given as goal

abbrev pub decreases-name_items : goal.decreases-name_items
decreases-name_items l = length l.names.now
