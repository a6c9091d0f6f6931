use Rattle.std.proofs.Common.{◌∙◌, ap}
use Rattle.std.specs.Prelude.{is_none}
use Rattle.sat_epoch.specs.Epochs.{advance_fault}
use Rattle.sat_proxy.specs.Steps.{has_come}
use Rattle.sat_hub.specs.Seen.{HubSeen}
use Rattle.sat_parts_pump.proofs.Nexts.{advance_can}
use Rattle.sat_parts_pump.proofs.coming.can_advance.Goals as goal

pub returns : goal.returns
returns g c =
    advance_can c.args.held.now.node.machine c.can_advance.result
    (c.can_advance.ensures ∙ ap (λ (y : HubSeen). is_none (advance_fault y.views (has_come y.views y.proxy))) (c.hub.ensures.hub ∙ (c.machine.ensures.machine ∙ ap (λ n. n.machine) c.node.ensures.node)))
