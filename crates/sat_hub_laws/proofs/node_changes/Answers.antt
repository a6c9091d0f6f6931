use Rattle.sat_hub_laws.proofs.Changes.{gears-change, hubs-change}
use Rattle.sat_hub_laws.proofs.node_changes.Goals as goal

pub returns : goal.returns
returns c = record { hubs = hubs-change; gears = gears-change }
