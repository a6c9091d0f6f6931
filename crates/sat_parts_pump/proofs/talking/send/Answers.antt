use Rattle.sat_parts_pump.proofs.Watching.{watched_more}
use Rattle.sat_parts_pump.proofs.talking.send.Goals as goal

pub invariant_of-watched : goal.invariant_of-watched
invariant_of-watched g c = watched_more c.watched.inside.held c.send.new.held _ _ _ c.watched.invariant c.send.ensures.made.added.1
