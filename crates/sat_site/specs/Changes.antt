-- What the calls of a site make of what it keeps.
use Rattle.std.specs.Prelude.{ℕ, ◌≡◌, ◌%◌, Bool, List, map, set, slice_get, Some}
use Rattle.sat_label.specs.declared.items.Items.{Items}
use Rattle.sat_label.specs.declared.label.Label.{Label}
use Rattle.sat_label.specs.Grouped.{least_item, list_of}
use Rattle.sat_label.specs.Words.{below}
use Rattle.sat_beat.specs.declared.Beat.{Beat}
use Rattle.sat_sites.specs.declared.shape.Shape.{Shape}
use Rattle.sat_gear.specs.Gear.{GearSeen, after_drain, drained_of, fresh_gear, after_tick}
use Rattle.sat_act.specs.Deployed.{Deployed}
use Rattle.sat_hub.specs.Changes as hub
pub use Rattle.sat_hub.specs.Changes.{count_to, counts_of, is_stamp_plan, shape_for}
use Rattle.sat_site.specs.Seen.{SiteSeen, hub_of, site_of, with_hub}

abbrev pub with_gear : SiteSeen → ℕ → GearSeen → SiteSeen
with_gear x g gear = record x { gears = set x.gears g gear }

abbrev pub ticked_to : ℕ → GearSeen → GearSeen
ticked_to t gear = after_tick gear t

-- each gear's promise is raised to a timestamp
abbrev pub clocked : SiteSeen → ℕ → SiteSeen
clocked x t = record x { gears = map (ticked_to t) x.gears }

abbrev pub fresh_of : GearSeen → List Label
fresh_of gear = gear.fresh

-- the sink has what the gears made since the last gather, and how far their lanes go was counted
abbrev pub gathered_all : SiteSeen → SiteSeen
gathered_all x = site_of (hub.gathered (hub_of x) (map drained_of x.gears)) (map after_drain x.gears)

abbrev pub sent : SiteSeen → Label → SiteSeen
sent x l = with_hub x (hub.sent (hub_of x) l)

abbrev pub pulsed : SiteSeen → SiteSeen
pulsed x = with_hub x (hub.pulsed (hub_of x))

-- a label was sent at the cut, which closed the epoch
abbrev pub closed : SiteSeen → SiteSeen
closed x = with_hub x (hub.closed (hub_of x))

abbrev pub fell : SiteSeen → SiteSeen
fell x = with_hub x (hub.fell (hub_of x))

-- ---- beats

-- what a beat for site j would say
abbrev pub beat_for : SiteSeen → ℕ → Beat
beat_for x j = hub.beat_for (hub_of x) j

-- the beats that were made for site j
abbrev pub made_for : SiteSeen → ℕ → List Beat
made_for x j = hub.made_for (hub_of x) j

-- one more was made
abbrev pub beaten : SiteSeen → ℕ → SiteSeen
beaten x j = with_hub x (hub.beaten (hub_of x) j)

-- ---- gears

-- the gear of an item
abbrev pub gear_at : SiteSeen → ℕ → ℕ
gear_at x n = n % x.shape.gears

-- the gear that stamps an update of some items: that of the least
abbrev pub gear_for : SiteSeen → Items → ℕ
gear_for x items = gear_at x (least_item (list_of items))

abbrev pub HasGear : SiteSeen → ℕ → GearSeen → Type 0
HasGear x g gear = slice_get x.gears g ≡ Some gear

-- ---- the start

-- a site of a shape, at which nothing has happened, by whether the plan of each epoch is stamp order
abbrev pub fresh_seen : Shape → List Bool → SiteSeen
fresh_seen shape stamp = site_of (hub.fresh_hub shape stamp) (map (fresh_gear shape) (below shape.gears))

-- a new site of a deployment
abbrev pub new_site : Deployed → ℕ → SiteSeen
new_site d i = fresh_seen (shape_for d i) (map is_stamp_plan d.plans)
