-- What a hub and its gears keep of a turn or a stamp of the hub.
use Rattle.std.specs.Prelude.{◌≡◌, ◌⊎◌, ℕ, ◌+◌, ◌==◌, ◌%◌, ◌&&◌, ◌||◌, Bool, true, false, List, [], ◌∷◌, Option, Some}
use Rattle.std.specs.Prelude.{None}
use Rattle.sat_label.specs.declared.label.Kind.{Kind}
use Rattle.sat_label.specs.declared.label.Kind.TheVariants.{Update}
use Rattle.sat_label.specs.declared.label.Label.{Label}
use Rattle.sat_label.specs.Grouped.{list_of}
use Rattle.sat_bulk.specs.Payloads.{Payload}
use Rattle.sat_sites.specs.Interested.{keeps}
use Rattle.sat_sites.specs.declared.shape.Shape.{Shape}
use Rattle.sat_gear.specs.Gear.{GearSeen}
use Rattle.sat_hub.specs.Seen.{HubSeen}
use Rattle.sat_act.specs.Deployed.{Deployed}
use Rattle.sat_node.specs.declared.joint.Part.{Part}
use Rattle.sat_node.specs.declared.kept.Body.{Body}
use Rattle.sat_node.specs.declared.kept.Body.TheVariants as body
use Rattle.sat_node.specs.declared.kept.CallFault.{CallFault}
use Rattle.sat_node.specs.declared.kept.CallFault.TheVariants as fault
use Rattle.sat_node.specs.declared.kept.Envelope.{Envelope}
use Rattle.sat_node.specs.Seen.{last_number}
use Rattle.sat_node.specs.Links.{Both, front_at}
use Rattle.sat_node.specs.Together.{Keeps, top_of}
use Rattle.sat_parts.specs.declared.gear_input.GearInput.TheVariants as gear
use Rattle.sat_parts.specs.declared.gear_input.ShownBy.{ShownBy}
use Rattle.sat_parts.specs.declared.hub_answer.HubAnswer.{HubAnswer}
use Rattle.sat_parts.specs.declared.hub_input.HubInput.{HubInput}
use Rattle.sat_parts.specs.declared.hub_input.HubInput.TheVariants as hub
use Rattle.sat_parts.specs.Acts.{GearActSeen}
use Rattle.sat_parts.specs.GearSteps.{gear_takes}
use Rattle.sat_parts.specs.Gears.{gear_meaning}
use Rattle.sat_parts.specs.Hubs.{hub_meaning}
use Rattle.sat_parts.specs.HubSteps.{hub_answers, hub_shows}
use Rattle.sat_parts_passes.specs.Gathers.{GearHeld, twice}
use Rattle.sat_parts_passes.specs.Partly.{KeepsPart}
use Rattle.sat_parts_passes.specs.Sendings.{HubHeld, of_hub, would_do}

-- ---- a gear's part

-- whether the gear of this number, of a site of this shape, shows one of these items: it is the gear's own, and the
-- site keeps it
abbrev pub shows_one : Shape → ℕ → List ℕ → Bool
shows_one shape number [] = false
shows_one shape number (n ∷ ns) =
    ((n % shape.gears == number) && keeps shape.interest n shape.site) || shows_one shape number ns

-- the same of a label's items, where it is an update
abbrev pub shows_kind : GearSeen → Kind → Bool
shows_kind x (Update items) = shows_one x.shape x.gear (list_of items)
shows_kind x _ = false

-- what a gear is handed that shows a payload
abbrev pub show_act : ShownBy → Payload → GearActSeen
show_act act p = record { by = None; input = gear.Show act p }

-- the same, if the hub shows one
abbrev pub show_input : ShownBy → Option Payload → Option GearActSeen
show_input act None = None
show_input act (Some p) = Some (show_act act p)

-- the part of a gear, with its copy, where this test holds
abbrev pub part_if : Bool → ShownBy → Payload → Option (Part GearActSeen)
part_if true act p = Some (twice (show_act act p))
part_if false act p = None

-- the part of a gear where the hub shows this: a gear that shows none of the items has none
abbrev pub show_part : ShownBy → Option Payload → GearHeld → Option (Part GearActSeen)
show_part act None g = None
show_part act (Some p) g = part_if (shows_kind g.node.machine p.label.kind) act p

-- whether a gear may be handed this, if there is something
abbrev pub may_take : Option GearActSeen → GearHeld → Bool
may_take None g = true
may_take (Some act) g = gear_takes g.node.machine act.input

-- whether each of these may
abbrev pub all_take : Option GearActSeen → List GearHeld → Bool
all_take o [] = true
all_take o (g ∷ gs) = may_take o g && all_take o gs

-- ---- the act

-- whether the hub would do it, and the gears may be handed what it shows
abbrev pub would_show : ShownBy → HubInput → HubSeen → List GearHeld → Bool
would_show act given x gears = would_do x given && all_take (show_input act (hub_shows x given)) gears

-- the label of a message, if it is one
abbrev pub body_label : Body → Option Label
body_label (body.Label l) = Some l
body_label _ = None

-- the label in front of a link, if one is known to stand there
abbrev pub label_of : Option Envelope → Option Label
label_of None = None
label_of (Some e) = body_label e.body

-- what the hub is handed in a turn by the front of a link
abbrev pub turn_of : HubHeld → ℕ → HubInput
turn_of h link = hub.Turn (label_of (front_at h.ins link))

-- the act's number: one above the greatest of the front's, if the hub takes one, and of all its nodes
abbrev pub show_number : Option ℕ → HubHeld → List GearHeld → ℕ
show_number link hub gears = top_of 0 link hub gears + 1

-- the hub keeps one entry more, with what its machine answers and shows; and under the same number each gear of the
-- items that it shows keeps one entry more, which shows that payload. The other gears keep nothing
pub record IsShown (d : Deployed) (link : Option ℕ) (act : ShownBy) (given : HubInput) (hub : HubHeld)
    (gears : List GearHeld) (hub_then : HubHeld) (gears_then : List GearHeld) : Type 0 where
  pub answer : HubAnswer
  pub told : answer.answer ≡ hub_answers hub.node.machine given
  pub shows : answer.show ≡ hub_shows hub.node.machine given
  pub home : Keeps (hub_meaning d) (show_number link hub gears) link (of_hub given) answer hub hub_then
  pub parts : Both (λ k x y. KeepsPart (gear_meaning d) (show_number link hub gears)
      (show_part act (hub_shows hub.node.machine given) x) x y) gears gears_then

-- memory ran out, or the greatest number is that of the front or of one of the nodes
abbrev pub FailsShown : Option ℕ → HubHeld → List GearHeld → CallFault → Type 0
FailsShown link hub gears f =
    (f ≡ fault.Memory) ⊎ ((f ≡ fault.Worn last_number) × (top_of 0 link hub gears ≡ last_number))

-- ---- only the contracts of private functions speak of these

-- whether it is a turn or a stamp
abbrev pub is_showing : HubInput → Bool
is_showing (hub.Turn front) = true
is_showing hub.Stamp = true
is_showing _ = false
