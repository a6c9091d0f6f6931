use Rattle.std.proofs.Common.{◌≡◌, ◌++◌, map, take}
use Rattle.sat_act.specs.declared.act.Act.TheVariants as act
use Rattle.sat_label.specs.declared.node.NodeId.{NodeId}
use Rattle.sat_settle.proofs.acts.add_serializer.Given as goal

abbrev pub invariant-loop-from : goal.invariant-loop-from
invariant-loop-from l = l.acts ≡ l.initial.acts ++ map (λ (u : NodeId). act.Hop l.epoch u l.to) (take l.from-index l.around)
