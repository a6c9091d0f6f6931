-- The test of equality of nodes.
use Rattle.std.proofs.Common.{◌≡◌, true, ap, arith}
use Rattle.std.proofs.lemmas.Bool.Decides.{nat_tests}
use Rattle.sat_label.specs.declared.node.NodeId.{NodeId}
use Rattle.sat_label.specs.declared.node.NodeId.TheVariants.{Site, Serializer}
use Rattle.sat_label.specs.Order.{node_eq}

pub same-node : (u v : NodeId) → node_eq u v ≡ true → u ≡ v
same-node (Site i) (Site k) e = ap Site (grind (arith, nat_tests))
same-node (Serializer i) (Serializer k) e = ap Serializer (grind (arith, nat_tests))
same-node (Site i) (Serializer k) e = absurd (cc)
same-node (Serializer i) (Site k) e = absurd (cc)

pub node-self : (u : NodeId) → node_eq u u ≡ true
node-self (Site i) = grind (arith, nat_tests)
node-self (Serializer z) = grind (arith, nat_tests)
