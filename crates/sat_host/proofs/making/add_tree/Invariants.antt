use Rattle.std.proofs.Common.{◌++◌, map}
use Rattle.sat_label.specs.declared.node.NodeName.TheVariants.{Serializer as AtSerializer}
use Rattle.sat_label.specs.Words.{below}
use Rattle.sat_machines.specs.Serials.{serial_meaning}
use Rattle.sat_host_laws.specs.Messages.{host_name}
use Rattle.sat_host.proofs.Growing.{AreNew}
use Rattle.sat_host.proofs.making.add_tree.Given as goal

abbrev pub invariant-loop-number : goal.invariant-loop-number
invariant-loop-number g l = AreNew (serial_meaning g.N.Laid.deployment) (map host_name l.initial.serials.items ++ map (AtSerializer l.epoch) (below l.number)) l.serials.items
