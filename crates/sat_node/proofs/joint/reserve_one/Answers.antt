use Rattle.sat_node.proofs.Together.{alone, same_of}
use Rattle.sat_node.proofs.joint.reserve_one.Goals as goal

pub returns-clause-same : goal.returns-clause-same
returns-clause-same g c = same_of c.args.node.now c.reserve.new.self c.reserve.ensures.same c.reserve.ensures.more c.reserve.ensures.outs c.reserve.ensures.ins

pub returns-clause-only : goal.returns-clause-only
returns-clause-only g c = alone c.reserve.result c.args.node.now.node.number c.args.last c.reserve.ensures.only c.reserve.ensures.worn c.requires.number c.requires.last
