-- Entries of the journals of hubs, gears and serializers, as the merge of journals takes them, and whose session keeps
-- them too.
use Rattle.std.specs.Prelude.{ℕ, Bool, true, List, [], ◌∷◌, Option, Some, None, if◌then◌else◌}
use Rattle.sat_label.specs.declared.node.NodeName.{NodeName}
use Rattle.sat_label.specs.declared.node.NodeName.TheVariants as named
use Rattle.sat_node.specs.declared.kept.Kept.{Kept as Line}
use Rattle.sat_machines.specs.declared.serial_act.SerialAct.{SerialAct}
use Rattle.sat_machines.specs.declared.serial_act.SerialAnswer.{SerialAnswer}
use Rattle.sat_stitch.specs.Kept.{Kept, entry_of}
use Rattle.sat_stitch.specs.Places.{Session, Client, Operator}
use Rattle.sat_joint.specs.Pieces.{plain}
use Rattle.sat_joint.specs.Table.{Node, AtHub, AtGear, AtSerial}
use Rattle.sat_joint.specs.Journals.{Noted}
use Rattle.sat_hub_laws.specs.Changes.{input_is_own}
use Rattle.sat_hub_laws.specs.Lines.{gear_piece, hub_piece}
use Rattle.sat_parts.specs.declared.hub_answer.HubAnswer.{HubAnswer}
use Rattle.sat_parts.specs.declared.gear_answer.GearAnswer.{GearAnswer}
use Rattle.sat_parts.specs.declared.hub_input.HubInput.{HubInput}
use Rattle.sat_parts.specs.declared.hub_input.HubInput.TheVariants as hub
use Rattle.sat_parts.specs.Acts.{HubActSeen, GearActSeen, gear_handed}
use Rattle.sat_parts.specs.Lines.{gear_line, hub_line}
use Rattle.sat_opened.specs.Keeping.{serial_kept}

-- ---- entries as kept

-- an entry of hub i's journal
abbrev pub hub_kept : ℕ → Line HubActSeen HubAnswer → Kept
hub_kept i k = plain (hub_piece i (hub_line k))

-- an entry of the journal of gear g of site i
abbrev pub gear_kept : ℕ → ℕ → Line GearActSeen GearAnswer → Kept
gear_kept i g k = plain (gear_piece i g (gear_line k))

-- ---- entries under their numbers, each with whether the node is the act's home

-- by what it is kept as, and whether this is its home
abbrev pub noted_as : {X : Type 0} → (X → Kept) → (X → Bool) → X → Noted
noted_as of home x = ((of x).number, entry_of (of x), home x)

-- a hub is the home of all that it keeps
abbrev pub always : {X : Type 0} → X → Bool
always x = true

-- an entry of a hub's journal
abbrev pub hub_noted : ℕ → Line HubActSeen HubAnswer → Noted
hub_noted i k = noted_as (hub_kept i) always k

-- a gear of its own acts, and not where it keeps a part of another node's
abbrev pub is_own_line : Line GearActSeen GearAnswer → Bool
is_own_line k = input_is_own (gear_handed k.input.input)

-- an entry of a gear's journal
abbrev pub gear_noted : ℕ → ℕ → Line GearActSeen GearAnswer → Noted
gear_noted i g k = noted_as (gear_kept i g) is_own_line k

-- an entry of a gear where it is an act of its own, and nothing where it is a part of another node's
abbrev pub own_noted : ℕ → ℕ → Line GearActSeen GearAnswer → List Noted
own_noted i g k = if is_own_line k then (k.lamport, entry_of (gear_kept i g k), true) ∷ [] else []

-- an entry of a serializer's journal
abbrev pub serial_noted : ℕ → ℕ → Line SerialAct SerialAnswer → Noted
serial_noted e z k = noted_as (serial_kept e z) always k

-- ---- owners

-- whose session keeps an act of a hub too: its client's, and the operator's where the site closes or falls
abbrev pub hub_owner : Option ℕ → HubInput → Option Session
hub_owner (Some c) input = Some (Client c)
hub_owner None hub.Close = Some Operator
hub_owner None hub.Fall = Some Operator
hub_owner None _ = None

-- and an act of a gear: its client's
abbrev pub gear_owner : Option ℕ → Option Session
gear_owner (Some c) = Some (Client c)
gear_owner None = None

-- ---- nodes

-- the node of this name
abbrev pub node_of : NodeName → Node
node_of (named.Site i) = AtHub i
node_of (named.Serializer e z) = AtSerial e z
node_of (named.Gear i g) = AtGear i g
