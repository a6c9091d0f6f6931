use Rattle.sat_parts_pump.proofs.Watching.{watched_fresh}
use Rattle.sat_parts_pump.proofs.watched.Watched.new.Goals as goal

pub invariant_of-result : goal.invariant_of-result
invariant_of-result g c = watched_fresh _
