-- What a hub and its gears keep of one gather.
use Rattle.std.specs.Prelude.{◌≡◌, ◌⊎◌, ℕ, ◌+◌, List, length, map, None}
use Rattle.std.specs.List.{flat_map}
use Rattle.sat_bulk.specs.declared.Drained.{Drained}
use Rattle.sat_gear.specs.Gear.{GearSeen, drained_of}
use Rattle.sat_sink.specs.Pending.{labels_of, least, promise_of}
use Rattle.sat_act.specs.declared.answer.Answer.TheVariants as ans
use Rattle.sat_act.specs.Deployed.{Deployed}
use Rattle.sat_node.specs.declared.joint.Part.{Part}
use Rattle.sat_node.specs.declared.kept.CallFault.{CallFault}
use Rattle.sat_node.specs.declared.kept.CallFault.TheVariants as fault
use Rattle.sat_node.specs.Seen.{last_number}
use Rattle.sat_node.specs.Links.{Both, HeldSeen}
use Rattle.sat_node.specs.Together.{Keeps, KeepsSome, top_of}
use Rattle.sat_parts.specs.declared.gear_answer.GearAnswer.{GearAnswer}
use Rattle.sat_parts.specs.declared.gear_input.GearInput.TheVariants as gear
use Rattle.sat_parts.specs.declared.hub_answer.HubAnswer.{HubAnswer}
use Rattle.sat_parts.specs.declared.hub_input.HubInput.TheVariants as hub
use Rattle.sat_parts.specs.Acts.{GearActSeen, HubActSeen}
use Rattle.sat_parts.specs.Gears.{gear_meaning}
use Rattle.sat_parts.specs.Hubs.{hub_meaning}
use Rattle.sat_parts_passes.specs.Sendings.{HubHeld, of_hub}

-- a gear's node with its link ends
abbrev pub GearHeld : Type 0
GearHeld = HeldSeen GearSeen GearActSeen GearAnswer

-- what a gear gives
abbrev pub gives : GearHeld → Drained
gives g = drained_of g.node.machine

-- what each of these gives, in their order
abbrev pub given_by : List GearHeld → List Drained
given_by gears = map gives gears

-- how many labels these are
abbrev pub label_count : List Drained → ℕ
label_count drained = length (flat_map labels_of drained)

-- up to which timestamp all is known once these were gathered
abbrev pub stable_with : List Drained → ℕ
stable_with drained = least (map promise_of drained)

-- the hub's part: it is handed what the gears give
abbrev pub gather_act : List Drained → HubActSeen
gather_act drained = of_hub (hub.Gather drained)

-- a gear's part: what it gives, and what the hub answers
abbrev pub drain_act : ℕ → ℕ → Drained → GearActSeen
drain_act labels stable own = record { by = None; input = gear.Drain own labels stable }

-- an input with its copy
abbrev pub twice : {I : Type 0} → I → Part I
twice input = record { input = input; copy = input }

-- a gear's part of a gather, with its copy
abbrev pub drain_part : ℕ → ℕ → GearHeld → Part GearActSeen
drain_part labels stable g = twice (drain_act labels stable (gives g))

-- the act's number: one above the greatest of all its nodes
abbrev pub gather_number : HubHeld → List GearHeld → ℕ
gather_number hub gears = top_of 0 None hub gears + 1

-- hub and gears keep one entry more, under one number: the hub's is handed what each gear gave, and answers what each
-- gear is handed beside it
pub record IsGathered (d : Deployed) (hub : HubHeld) (gears : List GearHeld) (hub_then : HubHeld)
    (gears_then : List GearHeld) : Type 0 where
  pub answer : HubAnswer
  pub told : answer.answer ≡ ans.Gathered (label_count (given_by gears)) (stable_with (given_by gears))
  pub home : Keeps (hub_meaning d) (gather_number hub gears) None (gather_act (given_by gears)) answer hub hub_then
  pub parts : Both (λ k x y. KeepsSome (gear_meaning d) (gather_number hub gears)
      (drain_act (label_count (given_by gears)) (stable_with (given_by gears)) (gives x)) x y) gears gears_then

-- memory ran out, or the greatest number is that of one of the nodes
abbrev pub FailsAll : HubHeld → List GearHeld → CallFault → Type 0
FailsAll hub gears f = (f ≡ fault.Memory) ⊎ ((f ≡ fault.Worn last_number) × (top_of 0 None hub gears ≡ last_number))
