use Rattle.sat_cluster.proofs.Doing.{did_write}
use Rattle.sat_cluster.proofs.asking.write_at.Goals as goal

pub returns : goal.returns
returns g c = did_write g.N.Laid.deployment c.args.item c.args.value.now c.args.site c.write-result.result c.args.held.now.node c.write-result.new.held.node c.args.session.now c.write-result.new.session c.requires.seat c.requires.name c.write-result.ensures.done c.gear_runs.ensures
