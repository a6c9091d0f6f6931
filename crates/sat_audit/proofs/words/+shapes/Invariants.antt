use Rattle.std.proofs.Common.{length}
use Rattle.sat_audit.proofs.words.+shapes.Given as goal

abbrev pub decreases-shapes : goal.decreases-shapes
decreases-shapes l = length l.words.now
