use Rattle.std.proofs.Common.{◌∙◌, ◌≡◌, subst, sym}
use Rattle.sat_label.specs.declared.node.NodeId.TheVariants.{Serializer}
use Rattle.sat_serial.specs.Routes.{leads}
use Rattle.sat_serial.proofs.Ways.{meets-leads}
use Rattle.sat_net.proofs.Edges.{turned-edge}
use Rattle.sat_tree.specs.Cut.{is_edge}
use Rattle.sat_store_example.specs.Relays.{RelaySeen}
use Rattle.sat_store_example.proofs.relay.Relay.leads.Goals as goal

pub beyond-near-requires-clause-edge : goal.beyond-near-requires-clause-edge
beyond-near-requires-clause-edge c =
    turned-edge c.self.inside.tree c.args.from (Serializer c.self.inside.number)
    ∙ subst (λ (r : RelaySeen). is_edge r.tree (Serializer r.number) c.args.from ≡ Rattle.std.specs.Prelude.true) (sym c.self.view_is) c.requires.edge

pub returns : goal.returns
returns c =
    subst (λ (r : RelaySeen). c.meets.result ≡ leads r.interest r.tree c.args.from (Serializer r.number) c.args.label.now) c.self.view_is
    (meets-leads c.meets.result c.targets-targets.result.bits c.beyond-near.result.bits c.self.inside.interest c.self.inside.tree c.args.from (Serializer c.self.inside.number) c.args.label.now
    c.self.invariant.sites c.targets-targets.ensures.targets c.beyond-near.ensures.beyond c.meets.ensures)
