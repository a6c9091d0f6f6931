use Rattle.std.proofs.Common.{length}
use Rattle.sat_script.proofs.act_lines.+all_known.Given as goal

abbrev pub decreases-all_known : goal.decreases-all_known
decreases-all_known l = length l.kinds.now
