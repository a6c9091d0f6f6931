-- What the calls of a hub make of what it keeps.
use Rattle.std.specs.Prelude.{ℕ, Bool, true, false, List, [], ◌∷◌, ◌++◌, map, replicate, set, get_or, Option}
use Rattle.sat_label.specs.declared.label.Label.{Label}
use Rattle.sat_bulk.specs.declared.Drained.{Drained}
use Rattle.sat_beat.specs.declared.Beat.{Beat}
use Rattle.sat_sites.specs.declared.shape.Shape.{Shape}
use Rattle.sat_sink.specs.Sink.{after_emit_of, after_close, after_pulse, cut_of, fresh_sink, after_gather}
use Rattle.sat_act.specs.Deployed.{Deployed}
use Rattle.sat_act.specs.declared.deployment.Plan.{Plan}
use Rattle.sat_act.specs.declared.deployment.Plan.TheVariants as plan
use Rattle.sat_epoch.specs.Epochs.{after_close as views_closed, after_fall, first_epochs}
use Rattle.sat_proxy.specs.Proxy.{fresh_proxy}
use Rattle.sat_proxy.specs.Steps.{stamp_after, turn_after, turn_views}
use Rattle.sat_model.specs.Interests.{interest_of}
use Rattle.sat_hub.specs.Seen.{HubSeen}

abbrev pub counts_of : Drained → List ℕ
counts_of d = d.counts

-- the sink has what the gears gave, and how far their lanes go was counted
abbrev pub gathered : HubSeen → List Drained → HubSeen
gathered x drained = record x { sink = after_gather x.sink drained; counts = map counts_of drained }

abbrev pub sent : HubSeen → Label → HubSeen
sent x l = record x { sink = after_emit_of x.sink l }

abbrev pub pulsed : HubSeen → HubSeen
pulsed x = record x { sink = after_pulse x.sink }

-- a label was sent at the cut, which closed the epoch
abbrev pub closed : HubSeen → HubSeen
closed x = record x { sink = after_close x.sink; views = views_closed x.views (cut_of x.sink) }

abbrev pub fell : HubSeen → HubSeen
fell x = record x { views = after_fall x.views }

-- a turn took the front of the link to the site
abbrev pub turned : HubSeen → Option Label → HubSeen
turned x front = record x { views = turn_views x.views front; proxy = turn_after x.views x.proxy front }

-- the next update in timestamp order, if there is one, waits no more
abbrev pub stamped : HubSeen → HubSeen
stamped x = record x { proxy = stamp_after x.views x.proxy }

-- ---- beats

abbrev pub count_to : ℕ → List ℕ → ℕ
count_to j row = get_or row j 0

-- what a beat for site j would say
abbrev pub beat_for : HubSeen → ℕ → Beat
beat_for x j = record { cut = cut_of x.sink; closes = x.views.closes; counts = map (count_to j) x.counts }

-- the beats that were made for site j
abbrev pub made_for : HubSeen → ℕ → List Beat
made_for x j = get_or x.made j []

-- one more was made
abbrev pub beaten : HubSeen → ℕ → HubSeen
beaten x j = record x { made = set x.made j (made_for x j ++ beat_for x j ∷ []) }

-- ---- the start

-- what the parts of site i of a deployment are made from
abbrev pub shape_for : Deployed → ℕ → Shape
shape_for d i = record { sites = d.sites; gears = d.gears; site = i; interest = interest_of d }

-- whether the plan of an epoch is stamp order
abbrev pub is_stamp_plan : Plan → Bool
is_stamp_plan plan.Stamp = true
is_stamp_plan (plan.Tree tree) = false

-- the hub of a site of a shape, at which nothing has happened, by whether the plan of each epoch is stamp order
abbrev pub fresh_hub : Shape → List Bool → HubSeen
fresh_hub shape stamp = record {
  shape = shape;
  sink = fresh_sink shape.site shape.gears;
  counts = replicate shape.gears [];
  views = first_epochs shape.sites shape.site stamp;
  proxy = fresh_proxy shape.sites shape.gears shape.site;
  made = replicate shape.sites [];
}

-- the hub of a new site of a deployment
abbrev pub new_hub : Deployed → ℕ → HubSeen
new_hub d i = fresh_hub (shape_for d i) (map is_stamp_plan d.plans)
