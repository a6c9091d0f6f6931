-- All hubs, gears and serializers of a deployment, each with its journal, whatever carries what they say.
use Rattle.std.specs.Prelude.{◌≡◌, List, map}
use Rattle.sat_label.specs.declared.node.NodeName.TheVariants as named
use Rattle.sat_label.specs.Words.{below}
use Rattle.sat_act.specs.Deployed.{Deployed}
use Rattle.sat_node.specs.Links.{HeldSeen, Each}
use Rattle.sat_machines.specs.Serials.{serial_meaning}
use Rattle.sat_machines.specs.declared.serial_act.SerialAct.{SerialAct}
use Rattle.sat_machines.specs.declared.serial_act.SerialAnswer.{SerialAnswer}
use Rattle.sat_parts.specs.declared.hub_answer.HubAnswer.{HubAnswer}
use Rattle.sat_parts.specs.declared.gear_answer.GearAnswer.{GearAnswer}
use Rattle.sat_parts.specs.Acts.{HubActSeen, GearActSeen}
use Rattle.sat_parts.specs.Hubs.{hub_meaning}
use Rattle.sat_parts.specs.Gears.{gear_meaning}
use Rattle.sat_opened.specs.Delivered.{DeliveredAll, DeliveredWithin}
use Rattle.sat_opened.specs.Hosts.{IsHost}
use Rattle.sat_opened.specs.Opened.{name_in, serial_names}
use Rattle.sat_parts.specs.Layout.{gear_names}

-- each hub, each gear and each serializer once, in order, and what each took from a link was put there by the other
-- end's journal
pub record PartsHosted {M G K : Type 0} (d : Deployed) (hubs : List (HeldSeen M HubActSeen HubAnswer))
    (gears : List (HeldSeen G GearActSeen GearAnswer)) (serials : List (HeldSeen K SerialAct SerialAnswer))
    : Type 0 where
  pub all_hubs : map name_in hubs ≡ map named.Site (below d.sites)
  pub all_gears : map name_in gears ≡ gear_names d
  pub all_serials : map name_in serials ≡ serial_names d
  pub each_hub : Each hubs (λ _ h. IsHost (hub_meaning d) h)
  pub each_gear : Each gears (λ _ h. IsHost (gear_meaning d) h)
  pub each_serial : Each serials (λ _ h. IsHost (serial_meaning d) h)
  pub lanes : DeliveredAll (gear_meaning d) (hub_meaning d) gears hubs
  pub between_hubs : DeliveredWithin (hub_meaning d) hubs
  pub between_serials : DeliveredWithin (serial_meaning d) serials
  pub from_hubs : DeliveredAll (hub_meaning d) (serial_meaning d) hubs serials
  pub from_serials : DeliveredAll (serial_meaning d) (hub_meaning d) serials hubs
