-- A site is its hub and its gears: what the nodes of an act answer and become, handed what they give one another, is
-- what the site answers and becomes.
use Rattle.std.specs.Prelude.{◌≡◌, ◌<◌, ℕ, Bool, true, false, ◌==◌, nat_lt, List, Some, if◌then◌else◌}
use Rattle.sat_label.specs.Grouped.{list_of}
use Rattle.sat_label.specs.Words.{has}
use Rattle.sat_label.specs.declared.carried.Carried.{Carried}
use Rattle.sat_label.specs.declared.items.Items.{Items}
use Rattle.sat_label.specs.declared.items.Items.TheVariants.{One}
use Rattle.sat_label.specs.declared.label.Label.{Label}
use Rattle.sat_act.specs.declared.answer.Answer.{Answer}
use Rattle.sat_act.specs.declared.answer.Answer.TheVariants as ans
use Rattle.sat_act.specs.Deployed.{Deployed}
use Rattle.sat_act.specs.Parts.{items_of}
use Rattle.sat_bulk.specs.Payloads.{Payload}
use Rattle.sat_model.specs.Input.{SiteInput}
use Rattle.sat_model.specs.Next.{payload_at}
use Rattle.sat_model.specs.Reply.{gear_for, site_step}
use Rattle.sat_joint.specs.Pieces.{Drain}
use Rattle.sat_joint.specs.Table.{AtGear, same_node, gear_nodes, item_gears}
use Rattle.sat_joint.specs.Machines.{HubState, GearNode, drain_of, fresh_gear, gear_drained, gear_shows, kept_site}
use Rattle.sat_joint.specs.Machines.{shown_by, whole}
use Rattle.sat_hub_laws.specs.Inputs.{HubInput, GearInput}
use Rattle.sat_hub_laws.specs.Inputs as given
use Rattle.sat_hub_laws.specs.Hubs.{hub_answer, hub_step, hub_then, site_of_hub}
use Rattle.sat_hub_laws.specs.Gears.{gear_step, is_own, site_of_gear}

-- a step of a site that was this hub and these gears, handed this: its answer, and the hub and the gears that it then
-- is. Versions of items that it doesn't keep are left out: nothing reads them
pub record IsSiteStep (d : Deployed) (i : ℕ) (h : HubState) (gs : ℕ → GearNode) (input : SiteInput) (r : Answer)
    (k : HubState) (ns : ℕ → GearNode) : Type 0 where
  pub answer : (site_step d i (whole d i h gs) input).0 ≡ r
  pub state : kept_site d i (site_step d i (whole d i h gs) input).1 ≡ whole d i k ns

-- gears of which one is now this one
abbrev pub with_gear : (ℕ → GearNode) → ℕ → GearNode → ℕ → GearNode
with_gear gs g n k = if g == k then n else gs k

-- whether a gear has one of these items, of those that the site keeps
abbrev pub has_part : Deployed → ℕ → List ℕ → ℕ → Bool
has_part d i xs g = has same_node (gear_nodes i (item_gears d i xs)) (AtGear i g)

-- gears of which those of these items now show a payload
abbrev pub showing : Deployed → ℕ → List ℕ → Payload → (ℕ → GearNode) → ℕ → GearNode
showing d i xs p gs g = if has_part d i xs g then gear_shows (gs g) p else gs g

-- ---- an act of the hub alone

abbrev pub is_gather : HubInput → Bool
is_gather (given.Gather f) = true
is_gather _ = false

abbrev pub is_shown : Answer → Bool
is_shown (ans.Shown l) = true
is_shown _ = false

-- an act of the hub that neither gathers nor shows is the site's, and leaves the gears
abbrev pub HubsActAlone : Type 0
HubsActAlone =
    (d : Deployed) (i : ℕ) (h : HubState) (gs : ℕ → GearNode) (input : HubInput) → is_gather input ≡ false →
    is_shown (hub_answer d i h input) ≡ false →
    IsSiteStep d i h gs (site_of_hub input) (hub_step d i h input).0 (hub_step d i h input).1 gs

-- ---- a gather, a turn and a stamp that show

-- a gather that is handed what the gears give is the site's, and drains them
abbrev pub HubsGather : Type 0
HubsGather =
    (d : Deployed) (i : ℕ) (h : HubState) (gs : ℕ → GearNode) (f : ℕ → Drain) →
    ((g : ℕ) → g < d.gears → f g ≡ drain_of (gs g)) → ((g : ℕ) → nat_lt g d.gears ≡ false → gs g ≡ fresh_gear) →
    IsSiteStep d i h gs (site_of_hub (given.Gather f)) (hub_step d i h (given.Gather f)).0
    (hub_step d i h (given.Gather f)).1 (λ g. gear_drained (gs g))

-- where the hub shows an update, in a turn or in a stamp, the gears of its items show the hub's payload
abbrev pub HubsShow : Type 0
HubsShow =
    (d : Deployed) (i : ℕ) (h : HubState) (gs : ℕ → GearNode) (input : HubInput) (l : Label) →
    hub_answer d i h input ≡ ans.Shown l →
    IsSiteStep d i h gs (site_of_hub input) (ans.Shown l) (hub_then d i h input (ans.Shown l))
    (showing d i (items_of l.kind) (shown_by h l) gs)

-- ---- an act of a gear alone

abbrev pub is_group : GearInput → Bool
is_group (given.Write seen (One x) values) = false
is_group (given.Write seen items values) = true
is_group _ = false

-- a tick, a read, a move and a write of one item are the site's, and leave the hub and the other gears
abbrev pub GearsActAlone : Type 0
GearsActAlone =
    (d : Deployed) (i g : ℕ) (h : HubState) (gs : ℕ → GearNode) (input : GearInput) (site : SiteInput) →
    is_own d g input ≡ true → is_group input ≡ false → site_of_gear g input ≡ Some site →
    IsSiteStep d i h gs site (gear_step d i g (gs g) input).0 h (with_gear gs g (gear_step d i g (gs g) input).1)

-- ---- a write of several items

-- what the gears make of a write that was answered so
abbrev pub written_gears : Deployed → ℕ → (ℕ → GearNode) → Items → List (List ℕ) → Answer → ℕ → GearNode
written_gears d i gs items values (ans.Wrote l) k = showing d i (list_of items) (payload_at l values) gs k
written_gears d i gs items values r k = gs k

-- what the least item's gear answers to a write of these, and then is
abbrev pub home_step : Deployed → ℕ → (ℕ → GearNode) → Carried → Items → List (List ℕ) → Answer × GearNode
home_step d i gs seen items values =
    gear_step d i (gear_for d items) (gs (gear_for d items)) (given.Write seen items values)

-- a write of several items is the site's: the least item's gear stamps it, the gears of the others show its payload,
-- and the hub is left
abbrev pub GearsWrite : Type 0
GearsWrite =
    (d : Deployed) (i : ℕ) (h : HubState) (gs : ℕ → GearNode) (seen : Carried) (items : Items)
    (values : List (List ℕ)) (site : SiteInput) →
    site_of_gear (gear_for d items) (given.Write seen items values) ≡ Some site →
    IsSiteStep d i h gs site (home_step d i gs seen items values).0 h
    (with_gear (written_gears d i gs items values (home_step d i gs seen items values).0) (gear_for d items)
    (home_step d i gs seen items values).1)
