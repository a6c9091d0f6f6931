use Rattle.std.proofs.Common.{◌∙◌, ◌==◌, not, ◌&&◌, ap}
use Rattle.sat_label.specs.declared.node.NodeId.TheVariants.{Serializer}
use Rattle.sat_label.specs.Order.{node_eq}
use Rattle.sat_serial.proofs.Ways.{meets-leads}
use Rattle.sat_serial.proofs.Places.{same-code}
use Rattle.sat_serial.proofs.router.goes.Goals as goal

pub returns : goal.returns
returns c = λ a t z l sites far targets.
    (λ i. not (c.code.ensures i == c.code-2.ensures i) && c.meets.result)
    ∙ (ap (λ b. not b && c.meets.result) (same-code c.args.from c.args.to)
    ∙ ap (λ b. not (node_eq c.args.from c.args.to) && b) (meets-leads c.meets.result c.args.targets.now.bits c.args.side.now.bits a t (Serializer z) c.args.to l sites targets far c.meets.ensures))
