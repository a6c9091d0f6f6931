use Rattle.std.proofs.Common.{ap}
use Rattle.sat_parts.specs.Acts.{GearActSeen}
use Rattle.sat_parts.specs.Locals.{is_part}
use Rattle.sat_node_tests.proofs.finish.drains.Goals as goal

pub act-requires-clause-local : goal.act-requires-clause-local
act-requires-clause-local g c =
    c.part_inputs.ensures.parts g.N.Laid.deployment c.args.gear.now.node c.of_gear-input.result (ap (λ (act : GearActSeen). is_part act.input) c.of_gear-input.ensures)
