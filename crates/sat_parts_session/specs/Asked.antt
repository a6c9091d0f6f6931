-- What sessions ask hubs and gears for, and at which gear.
use Rattle.std.specs.Prelude.{ℕ, ◌≡◌, Option, Some}
use Rattle.sat_label.specs.declared.node.NodeName.{NodeName}
use Rattle.sat_label.specs.declared.node.NodeName.TheVariants as named
use Rattle.sat_act.specs.declared.answer.Answer.{Answer}
use Rattle.sat_act.specs.Deployed.{Deployed}
use Rattle.sat_model.specs.State.{SiteState}
use Rattle.sat_joint.specs.Machines.{GearNode, gear_alone}
use Rattle.sat_parts.specs.declared.hub_answer.HubAnswer.{HubAnswer}
use Rattle.sat_parts.specs.declared.hub_input.HubInput.{HubInput}
use Rattle.sat_parts.specs.declared.gear_answer.GearAnswer.{GearAnswer}
use Rattle.sat_parts.specs.declared.gear_input.GearInput.{GearInput}
use Rattle.sat_parts.specs.Acts.{GearActSeen, HubActSeen}

-- the history's answer in a hub's, and in a gear's
abbrev pub of_hub : HubAnswer → Answer
of_hub a = a.answer

abbrev pub of_gear : GearAnswer → Answer
of_gear a = a.answer

-- an input of a hub by this client, or by none
abbrev pub hub_asked : Option ℕ → HubInput → HubActSeen
hub_asked client given = record { by = client; input = given }

-- and of a gear
abbrev pub gear_asked : Option ℕ → GearInput → GearActSeen
gear_asked client given = record { by = client; input = given }

-- it is the gear of this number at the site where a client is seated
abbrev pub AtSeat : Option ℕ → ℕ → NodeName → Type 0
AtSeat seat g name = (i : ℕ) × (seat ≡ Some i) × (name ≡ named.Gear i g)

-- a site that reads what a gear reads: its own promise, and its own versions
abbrev pub as_site : Deployed → ℕ → GearNode → SiteState
as_site d i n = record (gear_alone d i n) { store = n.store }
