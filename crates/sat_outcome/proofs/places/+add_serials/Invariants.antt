use Rattle.std.proofs.Common.{length}
use Rattle.sat_outcome.proofs.places.+add_serials.Given as goal

abbrev pub decreases-add_serials : goal.decreases-add_serials
decreases-add_serials l = length l.plans.now
