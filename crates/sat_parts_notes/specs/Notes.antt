-- What hubs, gears and serializers kept of the acts of clients and of the operator, each as its session would note it.
use Rattle.std.specs.Prelude.{◌++◌, List, [], ◌∷◌, Bool, true, false, Some, if◌then◌else◌}
use Rattle.std.specs.List.{flat_map}
use Rattle.sat_label.specs.declared.carried.Carried.{Carried}
use Rattle.sat_label.specs.declared.node.NodeName.{NodeName}
use Rattle.sat_node.specs.declared.kept.Kept.{Kept as Line}
use Rattle.sat_node.specs.Links.{HeldSeen}
use Rattle.sat_machines.specs.Sites.{number_of}
use Rattle.sat_machines.specs.declared.serial_act.SerialAct.{SerialAct}
use Rattle.sat_machines.specs.declared.serial_act.SerialAnswer.{SerialAnswer}
use Rattle.sat_stitch.specs.Kept.{entry_of}
use Rattle.sat_parts.specs.declared.hub_answer.HubAnswer.{HubAnswer}
use Rattle.sat_parts.specs.declared.gear_answer.GearAnswer.{GearAnswer}
use Rattle.sat_parts.specs.declared.hub_input.HubInput.{HubInput}
use Rattle.sat_parts.specs.declared.hub_input.HubInput.TheVariants as hub
use Rattle.sat_parts.specs.declared.gear_input.GearInput.{GearInput}
use Rattle.sat_parts.specs.declared.gear_input.GearInput.TheVariants as gear
use Rattle.sat_parts.specs.Acts.{GearActSeen, HubActSeen}
use Rattle.sat_parts.specs.Gears.{gear_number}
use Rattle.sat_parts_opened.specs.Keeping.{gear_kept, gear_owner, hub_kept, hub_owner, is_own_line}
use Rattle.sat_session.specs.declared.noted.Noted.{Noted}
use Rattle.sat_session.specs.Notes.{notes_at_serial, nothing_carried, owned_by}
use Rattle.sat_session.specs.Owned.{Owned}

-- ---- at hubs

-- what a client carried when it attached; nothing where it is no client's act
abbrev pub hub_carried : HubInput → Carried
hub_carried (hub.Attach seen) = seen
hub_carried _ = nothing_carried

-- an entry of the hub of this name, as a session would note it
abbrev pub hub_note : NodeName → Line HubActSeen HubAnswer → Noted
hub_note name k = record {
  lamport = k.lamport;
  at = Some name;
  carried = hub_carried k.input.input;
  entry = entry_of (hub_kept (number_of name) k);
}

-- the same, with the session that it is of; nothing where it is of none
abbrev pub hub_owned : NodeName → Line HubActSeen HubAnswer → List Owned
hub_owned name k = owned_by (hub_owner k.input.by k.input.input) (hub_note name k)

-- ---- at gears

-- what a client carried when it wrote, read or moved; nothing where it is no client's act
abbrev pub gear_carried : GearInput → Carried
gear_carried (gear.Write seen items values) = seen
gear_carried (gear.Read seen n) = seen
gear_carried (gear.Move seen j) = seen
gear_carried _ = nothing_carried

-- an entry of the gear of this name, as a session would note it
abbrev pub gear_note : NodeName → Line GearActSeen GearAnswer → Noted
gear_note name k = record {
  lamport = k.lamport;
  at = Some name;
  carried = gear_carried k.input.input;
  entry = entry_of (gear_kept (number_of name) (gear_number name) k);
}

-- the same, with the session that it is of, where it is an act of the gear's own; nothing where it is of none, or a
-- part of an act of another node, which that node tells of
abbrev pub gear_owned : NodeName → Line GearActSeen GearAnswer → List Owned
gear_owned name k = if is_own_line k then owned_by (gear_owner k.input.by) (gear_note name k) else []

-- ---- at all nodes

-- of the journal of a hub
abbrev pub notes_at_hub : {M : Type 0} → HeldSeen M HubActSeen HubAnswer → List Owned
notes_at_hub h = flat_map (hub_owned h.node.name) h.node.entries

-- of the journal of a gear
abbrev pub notes_at_gear : {M : Type 0} → HeldSeen M GearActSeen GearAnswer → List Owned
notes_at_gear h = flat_map (gear_owned h.node.name) h.node.entries

-- all that nodes kept of the acts of sessions: hub by hub, then gear by gear, then serializer by serializer
abbrev pub part_notes : {M G K : Type 0} → List (HeldSeen M HubActSeen HubAnswer)
    → List (HeldSeen G GearActSeen GearAnswer) → List (HeldSeen K SerialAct SerialAnswer) → List Owned
part_notes hubs gears serials =
    flat_map notes_at_hub hubs ++ (flat_map notes_at_gear gears ++ flat_map notes_at_serial serials)
