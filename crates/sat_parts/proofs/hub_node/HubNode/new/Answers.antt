use Rattle.sat_parts.proofs.HubFresh.{made-stands}
use Rattle.sat_parts.proofs.hub_node.HubNode.new.Goals as goal

pub returns : goal.returns
returns g c = made-stands _ _ _ _ c.proxy_laws.ensures.starts c.requires.deployment c.in_ok-hub.ensures
