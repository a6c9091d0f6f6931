use Rattle.std.proofs.Common.{None}
use Rattle.sat_node.specs.Together.{lent, top_of}
use Rattle.sat_cluster.proofs.Doing.{did_writes, said_below}
use Rattle.sat_cluster.proofs.asking.writes_at.Goals as goal

pub returns : goal.returns
returns g c =
    let x = c.args.session.now in
    let others = lent c.args.others.now.items in
    did_writes g.N.Laid.deployment (top_of x.lamport None c.args.home.now others) c.args.items c.args.values.now c.args.site c.writes-result.result c.args.home.now.node c.writes-result.new.home.node x c.writes-result.new.session (said_below x.lamport None c.args.home.now others) c.requires.seat c.requires.name c.writes-result.ensures.done c.gear_runs.ensures
