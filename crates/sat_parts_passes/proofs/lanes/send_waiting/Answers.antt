use Rattle.sat_parts_passes.proofs.Flushing.{waiting_sent}
use Rattle.sat_parts_passes.proofs.lanes.send_waiting.Goals as goal

pub returns-clause-sent : goal.returns-clause-sent
returns-clause-sent g c = waiting_sent _ c.args.held.now c.flush_all.new.held c.flush_all.ensures.node c.in_default.ensures.stopped c.node.ensures.tied
