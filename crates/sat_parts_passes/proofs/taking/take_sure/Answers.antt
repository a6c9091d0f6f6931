use Rattle.sat_node.proofs.Together.{keeps_sure}
use Rattle.sat_parts_passes.proofs.taking.take_sure.Goals as goal

pub returns : goal.returns
returns g c =
    keeps_sure g.M.Machine.meaning c.act.result c.args.last c.args.part.input (g.M.Machine.may_fail c.args.node.now.node.machine c.args.part.input) c.args.node.now c.act.new.self
    c.act.ensures.takes c.act.ensures.answer c.requires.room c.requires.part.sure c.requires.number c.requires.last c.act.ensures.outs c.act.ensures.ins
