use Rattle.std.proofs.Common.{arith, refl}
use Rattle.std.proofs.lemmas.Option.{slice_get_within}
use Rattle.sat_node.proofs.Agreements.{list_step}
use Rattle.sat_opened.specs.Opened.{IsOpened}
use Rattle.sat_finish.proofs.nodes.look_all.Goals as goal

pub loop-node-preserved : goal.loop-node-preserved
loop-node-preserved g c =
    list_step (λ h. IsOpened g.M.Machine.meaning h) c.args.nodes.now c.args.nodes.now c.loop-node.node-index c.node-item.result refl (omega arith) c.node-item.is c.look.ensures c.loop-node.invariant

pub returns : goal.returns
returns g c = λ k x at. c.loop-node.invariant k x (let within = slice_get_within c.args.nodes.now k x at in omega arith) at
