use Rattle.std.proofs.Common.{length, arith}
use Rattle.sat_label.specs.declared.node.NodeId.TheVariants.{Serializer}
use Rattle.sat_net.specs.Nets.{link_of}
use Rattle.sat_net.proofs.Calls.{many-at}
use Rattle.sat_net.proofs.Sums.{sum-takes}
use Rattle.sat_net.proofs.net.Net.underway_from.Goals as goal

pub loop-to-preserved : goal.loop-to-preserved
loop-to-preserved c =
    sum-takes (λ v. length (link_of c.args.self.now (Serializer c.args.z) v)) c.neighbours-to-items.result.now c.loop-to.to-index c.loop-to.count c.kept_for.result c.saturating_add-count.result _ (omega arith)
    c.loop-to.invariant (many-at _ _ _ _ _ _ c.self.view_is c.self.invariant c.requires c.deref.ensures.value c.kept_for.ensures) c.saturating_add-count.ensures
