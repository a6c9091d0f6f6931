use Rattle.std.proofs.Common.{length}
use Rattle.sat_script.proofs.list.+rise.Given as goal

abbrev pub decreases-rise : goal.decreases-rise
decreases-rise l = length l.others.now
