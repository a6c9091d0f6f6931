use Rattle.std.proofs.Common.{length}
use Rattle.sat_script.proofs.act_lines.+shapes.Given as goal

abbrev pub decreases-shapes : goal.decreases-shapes
decreases-shapes l = length l.kinds.now
