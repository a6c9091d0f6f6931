use Rattle.sat_node.proofs.Together.{home_err, home_keeps, home_only}
use Rattle.sat_parts_passes.proofs.taking.take_home.Goals as goal

pub returns-clause-home : goal.returns-clause-home
returns-clause-home g c =
    home_keeps g.M.Machine.meaning c.take.result c.args.last c.args.link c.args.own.input _ c.args.home.now c.take.new.self c.take.ensures.takes c.take.ensures.answer c.requires.number c.take.ensures.outs c.take.ensures.ins

pub returns-clause-err : goal.returns-clause-err
returns-clause-err g c = home_err g.M.Machine.meaning c.take.result c.args.last c.args.own.input _ c.args.home.now c.take.new.self c.take.ensures.takes c.take.ensures.outs c.take.ensures.err

pub returns-clause-only : goal.returns-clause-only
returns-clause-only g c = home_only g.M.Machine.meaning c.take.result c.args.last c.args.own.input _ c.args.home.now c.take.new.self c.take.ensures.takes c.requires.number c.requires.last
