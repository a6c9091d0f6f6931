use Rattle.std.proofs.Common.{arith, refl}
use Rattle.std.proofs.lemmas.Option.{slice_get_within}
use Rattle.sat_node.proofs.Agreements.{list_step}
use Rattle.sat_host_laws.specs.Messages.{IsKept}
use Rattle.sat_process.proofs.Together.{each_in}
use Rattle.sat_process.specs.Storing.{host_in}
use Rattle.sat_process.proofs.storing.look_all.Goals as goal

pub loop-process-preserved : goal.loop-process-preserved
loop-process-preserved g c =
    list_step (λ x. IsKept g.M.Machine.meaning x.host) c.args.processes.now c.args.processes.now c.loop-process.process-index c.process-item.result refl (omega arith) c.process-item.is c.look.ensures c.loop-process.invariant

pub returns : goal.returns
returns g c = each_in host_in (λ h. IsKept g.M.Machine.meaning h) c.args.processes.now (λ k x at. c.loop-process.invariant k x (let within = slice_get_within c.args.processes.now k x at in omega arith) at)
