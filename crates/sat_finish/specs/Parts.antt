-- What nodes kept of acts of several nodes: what the home of such acts kept of one of its gears, and what the gear
-- kept. Each entry tells its part by itself, no state is asked.
use Rattle.std.specs.Prelude.{◌≡◌, ◌<◌, ℕ, Bool, true, false, ◌&&◌, not, List, [], ◌∷◌, slice_get, Option, Some, None}
use Rattle.std.specs.List.{flat_map}
use Rattle.sat_label.specs.declared.node.NodeName.{NodeName}
use Rattle.sat_label.specs.declared.node.NodeName.TheVariants as named
use Rattle.sat_act.specs.declared.answer.Answer.{Answer}
use Rattle.sat_act.specs.declared.answer.Answer.TheVariants as ans
use Rattle.sat_act.specs.declared.entry.Entry.{Entry}
use Rattle.sat_act.specs.Deployed.{Deployed}
use Rattle.sat_bulk.specs.declared.Drained.{Drained}
use Rattle.sat_bulk.specs.Payloads.{Payload}
use Rattle.sat_model.specs.Next.{payload_at}
use Rattle.sat_node.specs.declared.kept.Kept.{Kept as Line}
use Rattle.sat_stitch.specs.Kept.{entry_of}
use Rattle.sat_hub_laws.specs.Changes.{input_is_own}
use Rattle.sat_hub_laws.specs.Parts.{same_home, written_at}
use Rattle.sat_parts.specs.declared.hub_answer.HubAnswer.{HubAnswer}
use Rattle.sat_parts.specs.declared.gear_answer.GearAnswer.{GearAnswer}
use Rattle.sat_parts.specs.declared.hub_input.HubInput.{HubInput}
use Rattle.sat_parts.specs.declared.hub_input.HubInput.TheVariants as hub
use Rattle.sat_parts.specs.declared.gear_input.GearInput.{GearInput}
use Rattle.sat_parts.specs.declared.gear_input.GearInput.TheVariants as gear
use Rattle.sat_parts.specs.Acts.{HubActSeen, GearActSeen, gear_handed}
use Rattle.sat_opened.specs.Opened.{entries_at}
use Rattle.sat_parts_opened.specs.Collected.{gear_gives, hub_gives}
use Rattle.sat_parts_opened.specs.Keeping.{gear_kept, hub_kept}
use Rattle.sat_parts_opened.specs.Laws.{GearHeld, HubHeld}
use Rattle.sat_finish.specs.declared.joint.Given.{Given}
use Rattle.sat_finish.specs.declared.joint.Given.TheVariants as given

-- a part: the act's Lamport number, the act with its answer, and what passed between its home and a gear
pub record PartSeen : Type 0 where
  pub lamport : ℕ
  pub entry : Entry
  pub given : Given

abbrev pub part_number : PartSeen → ℕ
part_number p = p.lamport

-- one part, or none
abbrev pub part_if : Bool → PartSeen → List PartSeen
part_if true p = p ∷ []
part_if false p = []

-- ---- at a hub

-- what a gear gave, nothing where there is nothing
abbrev pub given_by : Option Drained → Given
given_by None = given.Nothing
given_by (Some drained) = given.Drained drained

-- the payload that was shown, nothing where none was
abbrev pub shown_by : Option Payload → Given
shown_by None = given.Nothing
shown_by (Some payload) = given.Shown payload

-- what a hub has of gear g in an act
abbrev pub hub_given : ℕ → HubInput → HubAnswer → Given
hub_given g (hub.Gather drained) a = given_by (slice_get drained g)
hub_given g _ a = shown_by a.show

-- the part of gear g in an entry of hub i, if it has one
abbrev pub hub_part : Deployed → ℕ → ℕ → Line HubActSeen HubAnswer → List PartSeen
hub_part d i g k =
    part_if (hub_gives d i g k.input.input k.answer.answer)
    (record { lamport = k.lamport; entry = entry_of (hub_kept i k); given = hub_given g k.input.input k.answer })

-- ---- at another gear, which is the home of a write of several items

-- the payload that was written
abbrev pub payload_given : List (List ℕ) → Answer → Given
payload_given values (ans.Wrote l) = given.Shown (payload_at l values)
payload_given values _ = given.Nothing

-- what a gear has of another one in an act of its own
abbrev pub home_given : GearInput → Answer → Given
home_given (gear.Write seen items values) r = payload_given values r
home_given _ r = given.Nothing

-- the part of gear g in an entry of gear h, if it has one
abbrev pub written_part : Deployed → ℕ → ℕ → ℕ → Line GearActSeen GearAnswer → List PartSeen
written_part d i h g k =
    part_if (gear_gives d i g k.input.input k.answer.answer)
    (record {
      lamport = k.lamport;
      entry = entry_of (gear_kept i h k);
      given = home_given k.input.input k.answer.answer;
    })

-- ---- at the gear itself

-- what a gear gave or was handed
abbrev pub gear_given : GearInput → Given
gear_given (gear.Drain drained labels stable) = given.Drained drained
gear_given (gear.Show by payload) = given.Shown payload
gear_given _ = given.Nothing

-- whether an entry is a part of an act of this home: of another gear's where it tells of a write, and else of the hub's
abbrev pub is_part_of : Option ℕ → Line GearActSeen GearAnswer → Bool
is_part_of o k = not (input_is_own (gear_handed k.input.input)) && same_home (written_at k.answer.answer) o

-- the part that gear g kept of an act of this home, if an entry is one
abbrev pub kept_part : ℕ → ℕ → Option ℕ → Line GearActSeen GearAnswer → List PartSeen
kept_part i g o k =
    part_if (is_part_of o k)
    (record { lamport = k.lamport; entry = entry_of (gear_kept i g k); given = gear_given k.input.input })

-- ---- of all nodes

-- the home of acts with parts at gears of site i: its hub, or another gear
abbrev pub home_name : ℕ → Option ℕ → NodeName
home_name i None = named.Site i
home_name i (Some h) = named.Gear i h

-- the parts of gear g of site i in what this home kept, none where there is no such node
abbrev pub home_parts : Deployed → List HubHeld → List GearHeld → ℕ → ℕ → Option ℕ → List PartSeen
home_parts d hubs gears i g None = flat_map (hub_part d i g) (entries_at (named.Site i) hubs)
home_parts d hubs gears i g (Some h) = flat_map (written_part d i h g) (entries_at (named.Gear i h) gears)

-- and in what the gear kept
abbrev pub gear_parts : List GearHeld → ℕ → ℕ → Option ℕ → List PartSeen
gear_parts gears i g o = flat_map (kept_part i g o) (entries_at (named.Gear i g) gears)

-- each gear of a deployment and each home at its site kept the same parts
abbrev pub SameParts : Deployed → List HubHeld → List GearHeld → Type 0
SameParts d hubs gears = (i g : ℕ) (o : Option ℕ) → i < d.sites → g < d.gears
    → home_parts d hubs gears i g o ≡ gear_parts gears i g o
