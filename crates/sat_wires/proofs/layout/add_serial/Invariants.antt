use Rattle.std.proofs.Common.{◌≡◌, ◌++◌, map, take}
use Rattle.sat_label.specs.declared.node.NodeId.TheVariants.{Serializer}
use Rattle.sat_machines.specs.Layout.{Edge}
use Rattle.sat_wires.proofs.layout.add_serial.Given as goal

abbrev pub invariant-loop-node : goal.invariant-loop-node
invariant-loop-node l = l.ways ≡ l.initial.ways ++ map (λ v. Edge l.epoch (Serializer l.number) v) (take l.node-index l.node-items)
