use Rattle.sat_cluster.proofs.Doing.{did_read}
use Rattle.sat_cluster.proofs.asking.read_at.Goals as goal

pub returns : goal.returns
returns g c = did_read g.N.Laid.deployment c.args.item c.args.site c.read-result.result c.args.held.now.node c.read-result.new.held.node c.args.session.now c.read-result.new.session c.requires.seat c.requires.name c.read-result.ensures.done c.gear_runs.ensures
