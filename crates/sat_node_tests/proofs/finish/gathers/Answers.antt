use Rattle.std.proofs.Common.{ap}
use Rattle.sat_parts.specs.Acts.{HubActSeen}
use Rattle.sat_parts.specs.Locals.{is_gather}
use Rattle.sat_node_tests.proofs.finish.gathers.Goals as goal

pub act-requires-clause-local : goal.act-requires-clause-local
act-requires-clause-local g c =
    c.part_inputs.ensures.gathers g.N.Laid.deployment c.args.hub.now.node c.of_hub-input.result (ap (λ (act : HubActSeen). is_gather act.input) c.of_hub-input.ensures)
