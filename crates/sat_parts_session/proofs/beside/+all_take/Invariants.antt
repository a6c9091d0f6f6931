use Rattle.std.proofs.Common.{length}
use Rattle.sat_parts_session.proofs.beside.+all_take.Given as goal

abbrev pub decreases-all_take : goal.decreases-all_take
decreases-all_take g l = length l.others.now
