use Rattle.sat_cluster.proofs.Doing.{did_move}
use Rattle.sat_cluster.proofs.asking.move_at.Goals as goal

pub returns : goal.returns
returns g c = did_move g.N.Laid.deployment c.args.to c.args.site c.move_to-result.result c.args.held.now.node c.move_to-result.new.held.node c.args.session.now c.move_to-result.new.session c.requires.seat c.requires.name c.move_to-result.ensures.done c.gear_runs.ensures
