use Rattle.std.proofs.Common.{subst}
use Rattle.sat_hub.specs.Seen.{HubSeen}
use Rattle.sat_node.specs.Meanings.{Runs}
use Rattle.sat_node.specs.Seen.{NodeSeen}
use Rattle.sat_parts.specs.declared.hub_answer.HubAnswer.{HubAnswer}
use Rattle.sat_parts.specs.Acts.{HubActSeen}
use Rattle.sat_parts.specs.Hubs.{hub_meaning}
use Rattle.sat_cluster.proofs.asking.hub_runs.Goals as goal

pub returns : goal.returns
returns g c = subst (λ (n : NodeSeen HubSeen HubActSeen HubAnswer). Runs (hub_meaning g.N.Laid.deployment) n.name n.entries) c.node.ensures.node c.journal.ensures.runs
