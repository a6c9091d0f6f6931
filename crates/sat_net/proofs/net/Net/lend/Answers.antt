use Rattle.std.proofs.Common.{[], refl}
use Rattle.sat_label.specs.declared.node.NodeId.TheVariants.{Site, Serializer}
use Rattle.sat_net.proofs.Kept.{same-net}
use Rattle.sat_net.proofs.Lent.{net-link, labels-at}
use Rattle.sat_net.proofs.Calls.{neighbour-at}
use Rattle.sat_net.proofs.net.Net.lend.Goals as goal

pub invariant_of-self : goal.invariant_of-self
invariant_of-self c = same-net _ _ _ _ _ refl c.lend_link.ensures.rest (net-link _ (Site c.in-Site.site) c.args.to [] c.self.invariant)

pub lend_box-requires-clause-neighbour : goal.lend_box-requires-clause-neighbour
lend_box-requires-clause-neighbour c = neighbour-at _ _ _ _ _ c.self.view_is c.self.invariant c.in-Serializer.is c.requires.to c.requires.edge

pub invariant_of-self-in-Serializer : goal.invariant_of-self-in-Serializer
invariant_of-self-in-Serializer c = same-net _ _ _ _ _ c.lend_box.ensures.rest refl (net-link _ (Serializer c.in-Serializer.z) c.args.to [] c.self.invariant)

pub returns-in-Serializer-clause-labels : goal.returns-in-Serializer-clause-labels
returns-in-Serializer-clause-labels c = labels-at _ _ _ _ _ _ c.self.view_is c.self.invariant c.in-Serializer.is c.requires.from c.lend_box.ensures.labels
