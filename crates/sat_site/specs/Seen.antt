-- What a site keeps, and what is true of each.
use Rattle.std.specs.Prelude.{ℕ, ◌≡◌, List, [], length, get_or, slice_get, Some}
use Rattle.sat_label.specs.declared.label.Label.{Label}
use Rattle.sat_beat.specs.declared.Beat.{Beat}
use Rattle.sat_label.specs.Members.{In}
use Rattle.sat_sites.specs.declared.shape.Shape.{Shape}
use Rattle.sat_gear.specs.Gear.{GearSeen, IsGear, IsShape}
use Rattle.sat_sink.specs.Sink.{Sink}
use Rattle.sat_epoch.specs.Epochs.{Epochs}
use Rattle.sat_proxy.specs.Proxy.{ProxySeen}
use Rattle.sat_hub.specs.Seen.{HubSeen}
pub use Rattle.sat_hub.specs.Seen.{IsMadeHere, has_parts_here, IsGuest, IsBeatOf, HasSink, HasEpochs, HasPeers}
pub use Rattle.sat_hub.specs.Seen.{HasBeats}

-- what the site was made from; its gears; its sink, and by gear how much of its lane to each site was gathered; its
-- epochs; what it has of the other sites; and by site the beats that it made for it
pub record SiteSeen : Type 0 where
  pub shape : Shape
  pub gears : List GearSeen
  pub sink : Sink
  pub counts : List (List ℕ)
  pub views : Epochs
  pub proxy : ProxySeen
  pub made : List (List Beat)

-- the hub's part of it
abbrev pub hub_of : SiteSeen → HubSeen
hub_of x =
    record { shape = x.shape; sink = x.sink; counts = x.counts; views = x.views; proxy = x.proxy; made = x.made }

-- a site of this hub and these gears
abbrev pub site_of : HubSeen → List GearSeen → SiteSeen
site_of h gears = record {
  shape = h.shape;
  gears = gears;
  sink = h.sink;
  counts = h.counts;
  views = h.views;
  proxy = h.proxy;
  made = h.made;
}

-- the same site with another hub
abbrev pub with_hub : SiteSeen → HubSeen → SiteSeen
with_hub x h = site_of h x.gears

-- gear g is the one of that number, and the sink gathered from it what it drained last
pub record IsGearAt (site : Shape) (sink : Sink) (g : ℕ) (gear : GearSeen) : Type 0 where
  pub shape : gear.shape ≡ site
  pub number : gear.gear ≡ g
  pub gathered : get_or sink.promises g 0 ≡ gear.drained_promise
  pub fresh : (l : Label) → In gear.fresh l → IsMadeHere site l
  pub pending : (l : Label) → In (get_or sink.pending g []) l → IsMadeHere site l

-- what is true of each gear of a list
abbrev pub AreGears : List GearSeen → Type 0
AreGears gears = (g : ℕ) (gear : GearSeen) → slice_get gears g ≡ Some gear → IsGear gear

-- a gear of each number, and what is true of it
pub record HasGears (shape : Shape) (sink : Sink) (gears : List GearSeen) : Type 0 where
  pub count : length gears ≡ shape.gears
  pub each : (g : ℕ) (gear : GearSeen) → slice_get gears g ≡ Some gear → IsGearAt shape sink g gear
  pub are : AreGears gears

-- what holds of a site at all times: its parts are of one shape, with a row for each gear, site and epoch
pub record IsSite (x : SiteSeen) : Type 0 where
  pub shape : IsShape x.shape
  pub gears : HasGears x.shape x.sink x.gears
  pub sink : HasSink x.shape x.sink
  pub counts : length x.counts ≡ x.shape.gears
  pub views : HasEpochs x.shape x.views
  pub proxy : HasPeers x.shape x.proxy
  pub made : HasBeats x.shape (length x.views.stamp) x.made
