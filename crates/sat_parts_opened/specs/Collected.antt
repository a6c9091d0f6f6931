-- The parts that passed between a gear and the homes of its site, read off each entry of their journals alone: no
-- state is asked, since an entry holds what was given in it.
use Rattle.std.specs.Prelude.{◌≡◌, ℕ, Bool, true, false, ◌&&◌, ◌==◌, not, nat_lt, List, [], reverse, slice_get, Option}
use Rattle.std.specs.Prelude.{Some, None}
use Rattle.std.specs.List.{flat_map}
use Rattle.sat_label.specs.Grouped.{list_of}
use Rattle.sat_label.specs.declared.items.Items.{Items}
use Rattle.sat_label.specs.declared.node.NodeName.TheVariants as named
use Rattle.sat_act.specs.declared.answer.Answer.{Answer}
use Rattle.sat_act.specs.declared.answer.Answer.TheVariants as ans
use Rattle.sat_act.specs.Deployed.{Deployed}
use Rattle.sat_act.specs.Parts.{items_of}
use Rattle.sat_bulk.specs.Payloads.{Payload}
use Rattle.sat_model.specs.Next.{payload_at}
use Rattle.sat_model.specs.Reply.{gear_for}
use Rattle.sat_node.specs.declared.kept.Kept.{Kept as Line}
use Rattle.sat_node.specs.Meanings.{Runs}
use Rattle.sat_joint.specs.Compare.{Gave, Got, NoShare, Share}
use Rattle.sat_hub_laws.specs.Changes.{input_is_own}
use Rattle.sat_hub_laws.specs.Lines.{gear_piece, gear_pieces, hub_piece, hub_pieces}
use Rattle.sat_hub_laws.specs.Parts.{Part, given_parts, input_share, kept_parts, part_if, part_of, same_home}
use Rattle.sat_hub_laws.specs.Parts.{written_at}
use Rattle.sat_hub_laws.specs.Sites.{has_part}
use Rattle.sat_parts.specs.declared.hub_answer.HubAnswer.{HubAnswer}
use Rattle.sat_parts.specs.declared.gear_answer.GearAnswer.{GearAnswer}
use Rattle.sat_parts.specs.declared.hub_input.HubInput.{HubInput}
use Rattle.sat_parts.specs.declared.hub_input.HubInput.TheVariants as hub
use Rattle.sat_parts.specs.declared.gear_input.GearInput.{GearInput}
use Rattle.sat_parts.specs.declared.gear_input.GearInput.TheVariants as gear
use Rattle.sat_parts.specs.declared.gear_input.ShownBy.{ShownBy}
use Rattle.sat_parts.specs.declared.gear_input.ShownBy.TheVariants as by
use Rattle.sat_parts.specs.Acts.{HubActSeen, GearActSeen, drain_at, gear_handed}
use Rattle.sat_parts.specs.Hubs.{hub_meaning}
use Rattle.sat_parts.specs.Gears.{gear_meaning}
use Rattle.sat_parts.specs.Lines.{gear_line, gear_lines, hub_line, hub_lines}

-- ---- at a hub

-- whether an answer shows an item of gear g that site i keeps
abbrev pub shows_at : Deployed → ℕ → ℕ → Answer → Bool
shows_at d i g (ans.Shown l) = has_part d i (items_of l.kind) g
shows_at d i g _ = false

-- whether gear g has a part of what hub i did: each of the deployment's in a gather, and those of the items that a
-- turn or a stamp shows
abbrev pub hub_gives : Deployed → ℕ → ℕ → HubInput → Answer → Bool
hub_gives d i g (hub.Gather drained) r = nat_lt g d.gears
hub_gives d i g (hub.Turn front) r = shows_at d i g r
hub_gives d i g hub.Stamp r = shows_at d i g r
hub_gives d i g _ r = false

-- what passed: what the gear gave, or what the hub shows
abbrev pub got_of : Option Payload → Share
got_of None = NoShare
got_of (Some p) = Got p

-- the same of an entry of a hub
abbrev pub hub_gave : ℕ → HubInput → HubAnswer → Share
hub_gave g (hub.Gather drained) a = Gave (drain_at (slice_get drained g))
hub_gave g _ a = got_of a.show

-- the part of gear g in an entry of hub i, if it has one
abbrev pub hub_part : Deployed → ℕ → ℕ → Line HubActSeen HubAnswer → List Part
hub_part d i g k =
    part_if (hub_gives d i g k.input.input k.answer.answer)
    (part_of (hub_piece i (hub_line k)) (hub_gave g k.input.input k.answer)) []

-- ---- at another gear, which is the home of a write of several items

-- whether gear g has a part of a write of these items with this answer
abbrev pub write_gives : Deployed → ℕ → ℕ → Items → Answer → Bool
write_gives d i g items (ans.Wrote l) = has_part d i (list_of items) g && not (gear_for d items == g)
write_gives d i g items _ = false

-- and of any act of that gear
abbrev pub gear_gives : Deployed → ℕ → ℕ → GearInput → Answer → Bool
gear_gives d i g (gear.Write seen items values) r = write_gives d i g items r
gear_gives d i g _ r = false

-- what passed: the payload that is written
abbrev pub write_gave : List (List ℕ) → Answer → Share
write_gave values (ans.Wrote l) = Got (payload_at l values)
write_gave values _ = NoShare

-- and in any act of that gear
abbrev pub gear_gave : GearInput → Answer → Share
gear_gave (gear.Write seen items values) r = write_gave values r
gear_gave _ r = NoShare

-- the part of gear g in an entry of gear h, if it has one
abbrev pub given_part : Deployed → ℕ → ℕ → ℕ → Line GearActSeen GearAnswer → List Part
given_part d i h g k =
    part_if (gear_gives d i g k.input.input k.answer.answer)
    (part_of (gear_piece i h (gear_line k)) (gear_gave k.input.input k.answer.answer)) []

-- ---- at the gear itself

-- the part that it kept of an act of this home, if an entry is one
abbrev pub kept_part : ℕ → ℕ → Option ℕ → Line GearActSeen GearAnswer → List Part
kept_part i g o k =
    part_if (not (input_is_own (gear_handed k.input.input)) && same_home (written_at k.answer.answer) o)
    (part_of (gear_piece i g (gear_line k)) (input_share (gear_handed k.input.input))) []

-- whether it is the hub that shows
abbrev pub is_shown_by_hub : ShownBy → Bool
is_shown_by_hub by.Turn = true
is_shown_by_hub by.Stamp = true
is_shown_by_hub by.Write = false

-- whether an input is its part of an act of its hub
abbrev pub is_of_hub : GearInput → Bool
is_of_hub (gear.Drain given labels stable) = true
is_of_hub (gear.Show act p) = is_shown_by_hub act
is_of_hub _ = false

-- the part that it kept of an act of its hub, if an entry is one, by the input alone
abbrev pub kept_of_hub : ℕ → ℕ → Line GearActSeen GearAnswer → List Part
kept_of_hub i g k =
    part_if (is_of_hub k.input.input)
    (part_of (gear_piece i g (gear_line k)) (input_share (gear_handed k.input.input))) []

-- ---- of whole journals, the oldest first

-- of a hub
abbrev pub HubsGive : Type 0
HubsGive = (d : Deployed) (i g : ℕ) (es : List (Line HubActSeen HubAnswer)) → Runs (hub_meaning d) (named.Site i) es
    → reverse (given_parts d i g None (hub_pieces i (hub_lines es))) ≡ flat_map (hub_part d i g) es

-- of a gear that is the home
abbrev pub GearsGive : Type 0
GearsGive = (d : Deployed) (i h g : ℕ) (es : List (Line GearActSeen GearAnswer))
    → Runs (gear_meaning d) (named.Gear i h) es
    → reverse (given_parts d i g (Some h) (gear_pieces i h (gear_lines es))) ≡ flat_map (given_part d i h g) es

-- and of the gear itself
abbrev pub GearsKeepParts : Type 0
GearsKeepParts = (d : Deployed) (i g : ℕ) (o : Option ℕ) (es : List (Line GearActSeen GearAnswer))
    → Runs (gear_meaning d) (named.Gear i g) es
    → reverse (kept_parts d i g o (gear_pieces i g (gear_lines es))) ≡ flat_map (kept_part i g o) es

-- those of acts of the hub are such by their inputs alone
abbrev pub HubPartsKept : Type 0
HubPartsKept = (d : Deployed) (i g : ℕ) (es : List (Line GearActSeen GearAnswer))
    → Runs (gear_meaning d) (named.Gear i g) es → flat_map (kept_part i g None) es ≡ flat_map (kept_of_hub i g) es
