use Rattle.std.proofs.Common.{ℕ, ◌≡◌, true, subst, sym}
use Rattle.sat_label.specs.declared.node.NodeId.TheVariants.{Site, Serializer}
use Rattle.sat_tree.specs.Cut.{is_edge}
use Rattle.sat_net.proofs.Edges.{from-seat}
use Rattle.sat_net.proofs.net.Net.lend_to.Goals as goal

pub lend-requires-clause-edge : goal.lend-requires-clause-edge
lend-requires-clause-edge c = subst (λ (z : ℕ). is_edge c.args.self.now.tree (Serializer z) (Site c.args.site) ≡ true) (sym c.seat-seat.ensures.seat) (from-seat c.args.self.now.tree c.args.site)
