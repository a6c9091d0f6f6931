use Rattle.std.proofs.Common.{refl}
use Rattle.sat_label.specs.declared.node.NodeId.TheVariants.{Site, Serializer}
use Rattle.sat_net.proofs.Kept.{same-net}
use Rattle.sat_net.proofs.Lent.{net-link}
use Rattle.sat_net.proofs.Calls.{neighbour-at}
use Rattle.sat_net.proofs.net.Net.restore.Goals as goal

pub invariant_of-self : goal.invariant_of-self
invariant_of-self c = same-net _ _ _ _ _ refl c.restore_link.ensures (net-link _ (Site c.in-Site.site) c.args.to c.args.labels.members c.self.invariant)

pub restore_box-requires-clause-neighbour : goal.restore_box-requires-clause-neighbour
restore_box-requires-clause-neighbour c = neighbour-at _ _ _ _ _ c.self.view_is c.self.invariant c.in-Serializer.is c.requires.to c.requires.edge

pub invariant_of-self-in-Serializer : goal.invariant_of-self-in-Serializer
invariant_of-self-in-Serializer c = same-net _ _ _ _ _ c.restore_box.ensures refl (net-link _ (Serializer c.in-Serializer.z) c.args.to c.args.labels.members c.self.invariant)
