-- Which inputs take nothing from a link and have an answer that stands: where nodes that are lent together do one act,
-- so have the parts of gears and the hub's gather.
use Rattle.std.specs.Prelude.{◌≡◌, Bool, true, false}
use Rattle.sat_act.specs.Deployed.{Deployed}
use Rattle.sat_gear.specs.Gear.{GearSeen}
use Rattle.sat_hub.specs.Seen.{HubSeen}
use Rattle.sat_node.specs.Links.{IsLocal}
use Rattle.sat_node.specs.Seen.{NodeSeen}
use Rattle.sat_parts.specs.declared.hub_answer.HubAnswer.{HubAnswer}
use Rattle.sat_parts.specs.declared.hub_input.HubInput.{HubInput}
use Rattle.sat_parts.specs.declared.hub_input.HubInput.TheVariants as hub
use Rattle.sat_parts.specs.declared.gear_answer.GearAnswer.{GearAnswer}
use Rattle.sat_parts.specs.declared.gear_input.GearInput.{GearInput}
use Rattle.sat_parts.specs.declared.gear_input.GearInput.TheVariants as gear
use Rattle.sat_parts.specs.Acts.{HubActSeen, GearActSeen}
use Rattle.sat_parts.specs.Hubs.{hub_meaning}
use Rattle.sat_parts.specs.Gears.{gear_meaning}

-- whether it is a gear's part of another node's act
abbrev pub is_part : GearInput → Bool
is_part (gear.Drain given labels stable) = true
is_part (gear.Show act payload) = true
is_part _ = false

-- whether it is a gather
abbrev pub is_gather : HubInput → Bool
is_gather (hub.Gather drained) = true
is_gather _ = false

-- a gear's part of another node's act takes nothing from a link, and each answer that the machine has for it
-- stands
abbrev pub PartsAreLocal : Type 0
PartsAreLocal =
    (d : Deployed) (node : NodeSeen GearSeen GearActSeen GearAnswer) (act : GearActSeen) → is_part act.input ≡ true
    → IsLocal (gear_meaning d) node act

-- and so does a gather of a hub's
abbrev pub GathersAreLocal : Type 0
GathersAreLocal =
    (d : Deployed) (node : NodeSeen HubSeen HubActSeen HubAnswer) (act : HubActSeen) → is_gather act.input ≡ true
    → IsLocal (hub_meaning d) node act
