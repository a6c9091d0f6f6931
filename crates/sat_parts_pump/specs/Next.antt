-- What a hub does next, as far as it shows and takes.
use Rattle.std.specs.Prelude.{◌≡◌, ℕ, Bool, true, false, List, Option, Some, None}
use Rattle.sat_label.specs.declared.label.Kind.{Kind}
use Rattle.sat_label.specs.declared.label.Kind.TheVariants.{Update}
use Rattle.sat_label.specs.declared.label.Label.{Label}
use Rattle.sat_bulk.specs.Payloads.{Payload}
use Rattle.sat_act.specs.Deployed.{Deployed}
use Rattle.sat_hub.specs.Seen.{HubSeen}
use Rattle.sat_node.specs.declared.kept.Body.{Body}
use Rattle.sat_node.specs.declared.kept.Body.TheVariants as body
use Rattle.sat_node.specs.declared.kept.Envelope.{Envelope}
use Rattle.sat_node.specs.Links.{InSeen, OnlyAt, Pulled, front_at}
use Rattle.sat_machines.specs.Layout.{label_link}
use Rattle.sat_machines.specs.Sites.{some_if}
use Rattle.sat_parts.specs.declared.hub_input.HubInput.TheVariants as hub
use Rattle.sat_parts.specs.HubSteps.{hub_shows}
use Rattle.sat_parts_passes.specs.Sendings.{HubHeld, would_do}
use Rattle.sat_parts_pump.specs.declared.lending.Lent.{Lent}
use Rattle.sat_parts_pump.specs.declared.lending.Lent.TheVariants as lent
use Rattle.sat_parts_pump.specs.declared.coming.Next.{Next}
use Rattle.sat_parts_pump.specs.declared.coming.Next.TheVariants as next

-- the label that the hub would show or take now
abbrev pub label_with : HubSeen → Body → Option Label
label_with x (body.Label l) = some_if (would_do x (hub.Turn (Some l))) l
label_with x (body.Payload gear number payload) = None
label_with x (body.Beat number beat) = None

-- the same of a front, if there is one
abbrev pub label_at : HubSeen → Option Envelope → Option Label
label_at x None = None
label_at x (Some e) = label_with x e.body

-- the gears of the items of an update
abbrev pub lent_of : Kind → Lent
lent_of (Update items) = lent.Of items
lent_of _ = lent.Alone

-- the gears that show a payload
abbrev pub lent_by : Option Payload → Lent
lent_by None = lent.Alone
lent_by (Some p) = lent_of p.label.kind

-- by whether the hub would stamp, and whether it would go on to the next epoch
abbrev pub next_would : Bool → Bool → Lent → Next
next_would true advance shown = next.Stamp shown
next_would false true shown = next.Advance
next_would false false shown = next.Nothing

-- what a hub does next that takes no label
abbrev pub next_alone : HubSeen → Next
next_alone x = next_would (would_do x hub.Stamp) (would_do x hub.Advance) (lent_by (hub_shows x hub.Stamp))

-- the same by the label that it would show or take, if there is one
abbrev pub next_by : HubSeen → Option Label → Next
next_by x None = next_alone x
next_by x (Some l) = next.Turn (lent_by (hub_shows x (hub.Turn (Some l))))

-- by what stands in front of the link of its view's tree
abbrev pub next_of : Deployed → HubHeld → Next
next_of d h = next_by h.node.machine (label_at h.node.machine (front_at h.ins (label_link d h.node.machine.views.view)))

-- which gears this needs
abbrev pub lent_for : Next → Lent
lent_for next.Nothing = lent.Alone
lent_for (next.Turn shown) = shown
lent_for (next.Stamp shown) = shown
lent_for next.Advance = lent.Alone

-- a hub that goes by timestamp order pulls nothing; another one pulls what comes next over this link, if there is one
abbrev pub IsPulled : Bool → ℕ → List InSeen → List InSeen → Type 0
IsPulled true link old new = new ≡ old
IsPulled false link old new = OnlyAt link Pulled old new
