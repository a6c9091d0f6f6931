use Rattle.std.proofs.Common.{◌≡◌, length, take}
use Rattle.std.specs.List.{sum_by}
use Rattle.sat_label.specs.declared.node.NodeId.TheVariants.{Serializer}
use Rattle.sat_act.specs.Settling.{capped}
use Rattle.sat_net.specs.Nets.{link_of}
use Rattle.sat_net.proofs.net.Net.underway_from.Given as goal

abbrev pub invariant-loop-to : goal.invariant-loop-to
invariant-loop-to l = l.count ≡ capped (sum_by (λ v. length (link_of l.self (Serializer l.z) v)) (take l.to-index l.to-items))
