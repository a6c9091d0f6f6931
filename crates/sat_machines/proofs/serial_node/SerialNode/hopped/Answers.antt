use Rattle.std.proofs.Common.{ap, ◌∙◌}
use Rattle.sat_model.specs.Interests.{interest_of}
use Rattle.sat_machines.specs.Serials.{arrives, SerialSeen}
use Rattle.sat_machines.proofs.Serials.{arrives_held}
use Rattle.sat_machines.proofs.serial_node.SerialNode.hopped.Goals as goal

pub route-requires : goal.route-requires
route-requires g c =
    arrives_held _ _ _ _ _ _ _ _ c.self.invariant
    (ap (λ (x : SerialSeen). arrives (interest_of g.N.Laid.deployment) x.serial.tree x.serial.number c.args.from c.args.label) c.self.view_is ∙ c.requires)
