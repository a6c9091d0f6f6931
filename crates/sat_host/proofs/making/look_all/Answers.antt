use Rattle.std.proofs.Common.{arith, refl}
use Rattle.std.proofs.lemmas.Option.{slice_get_within}
use Rattle.sat_node.proofs.Agreements.{list_step}
use Rattle.sat_host_laws.specs.Messages.{IsKept}
use Rattle.sat_host.proofs.making.look_all.Goals as goal

pub loop-host-preserved : goal.loop-host-preserved
loop-host-preserved g c =
    list_step (λ h. IsKept g.M.Machine.meaning h) c.args.hosts.now c.args.hosts.now c.loop-host.host-index c.host-item.result refl (omega arith) c.host-item.is c.look.ensures c.loop-host.invariant

pub returns : goal.returns
returns g c = λ k x at. c.loop-host.invariant k x (let within = slice_get_within c.args.hosts.now k x at in omega arith) at
