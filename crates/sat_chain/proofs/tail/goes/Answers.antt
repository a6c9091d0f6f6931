use Rattle.std.proofs.Common.{◌∙◌, not, ◌&&◌, ap, sym}
use Rattle.sat_label.specs.declared.node.NodeId.TheVariants.{Serializer}
use Rattle.sat_serial.specs.Routes.{leads}
use Rattle.sat_serial.proofs.Ways.{meets-leads}
use Rattle.sat_chain.proofs.tail.goes.Goals as goal

pub returns-then-not-is_same : goal.returns-then-not-is_same
returns-then-not-is_same c = λ a t z l sites far targets.
    meets-leads c.meets.result c.args.targets.now.bits c.args.side.now.bits a t (Serializer z) c.args.to l sites targets far c.meets.ensures
    ∙ sym (ap (λ b. not b && leads a t (Serializer z) c.args.to l) (sym c.is_same.ensures ∙ c.if-not-is_same.true))
