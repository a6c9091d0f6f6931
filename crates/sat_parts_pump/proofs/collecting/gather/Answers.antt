use Rattle.sat_parts_pump.proofs.Watching.{watched_more}
use Rattle.sat_parts_pump.proofs.collecting.gather.Goals as goal

pub invariant_of-watched : goal.invariant_of-watched
invariant_of-watched g c = watched_more c.watched.inside.held c.gather_held.new.hub _ _ _ c.watched.invariant c.gather_held.ensures.more.1
