use Rattle.std.proofs.Common.{map}
use Rattle.sat_machines.specs.Serials.{serial_meaning}
use Rattle.sat_host_laws.specs.Messages.{host_name}
use Rattle.sat_host.proofs.Growing.{serials_grow}
use Rattle.sat_host.proofs.making.add_tree.Goals as goal

pub loop-number-preserved : goal.loop-number-preserved
loop-number-preserved g c =
    serials_grow (serial_meaning g.N.Laid.deployment) (map host_name c.args.serials.now.items) c.args.epoch c.loop-number.number c.loop-number.serials.items c.push.new.self.items c.in_ok-host.host c.in_ok-push.ensures.items c.loop-number.invariant c.in_ok-host.ensures.name c.in_ok-host.ensures.fresh
