use Rattle.std.proofs.Common.{length}
use Rattle.sat_script.proofs.act_lines.+all_say.Given as goal

abbrev pub decreases-all_say : goal.decreases-all_say
decreases-all_say l = length l.kinds.now
