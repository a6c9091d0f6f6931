use Rattle.std.proofs.Common.{length}
use Rattle.sat_draw.proofs.columns.+serializers_in.Given as goal

abbrev pub decreases-serializers_in : goal.decreases-serializers_in
decreases-serializers_in l = length l.plans.now
