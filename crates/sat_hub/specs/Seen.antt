-- What the hub of a site keeps, and what is true of each.
use Rattle.std.specs.Prelude.{ℕ, ◌≡◌, ◌≤◌, ◌<◌, Bool, true, false, ◌&&◌, ◌||◌, not, List, [], ◌∷◌, length, get_or}
use Rattle.std.specs.Prelude.{slice_get, Option, Some, is_some}
use Rattle.sat_label.specs.declared.items.Items.{Items}
use Rattle.sat_label.specs.declared.label.Kind.TheVariants.{Update}
use Rattle.sat_label.specs.declared.label.Label.{Label}
use Rattle.sat_bulk.specs.Payloads.{Payload}
use Rattle.sat_bulk.specs.declared.Drained.{Drained}
use Rattle.sat_beat.specs.declared.Beat.{Beat}
use Rattle.sat_label.specs.Grouped.{list_of}
use Rattle.sat_label.specs.Members.{In, is_made}
use Rattle.sat_sites.specs.Interested.{keeps, keeps_one, is_for, AreBelow, IsKindOf}
use Rattle.sat_sites.specs.declared.shape.Shape.{Shape}
use Rattle.sat_gear.specs.Gear.{IsShape}
use Rattle.sat_sink.specs.Sink.{Sink, IsDrain}
use Rattle.sat_epoch.specs.Epochs.{Epochs, IsEpochs}
use Rattle.sat_pool.specs.Pool.{all_waiting}
use Rattle.sat_proxy.specs.Proxy.{ProxySeen, IsProxy}
use Rattle.sat_act.specs.Parts.{items_of}

-- what the site was made from; its sink, and by gear how much of its lane to each site was gathered; its epochs; what
-- it has of the other sites; and by site the beats that it made for it
pub record HubSeen : Type 0 where
  pub shape : Shape
  pub sink : Sink
  pub counts : List (List ℕ)
  pub views : Epochs
  pub proxy : ProxySeen
  pub made : List (List Beat)

-- an update or a move that the site made, which is not for itself
pub record IsMadeHere (shape : Shape) (l : Label) : Type 0 where
  pub site : l.point.site ≡ shape.site
  pub kind : IsKindOf shape.interest l.kind
  pub made : is_made l.kind ≡ true
  pub away : is_for shape.interest l shape.site ≡ false

-- as many parts as items, and a value for each item that the site keeps
abbrev pub has_parts_here : Shape → List ℕ → List (Option (List ℕ)) → Bool
has_parts_here shape [] [] = true
has_parts_here shape [] (p ∷ ps) = false
has_parts_here shape (n ∷ ns) [] = false
has_parts_here shape (n ∷ ns) (p ∷ ps) =
    (not (keeps shape.interest n shape.site) || is_some p) && has_parts_here shape ns ps

-- an update of a site, of items of which this one keeps one, with a value for each that it keeps
pub record IsGuest (shape : Shape) (p : Payload) : Type 0 where
  pub items : (items : Items) × (p.label.kind ≡ Update items)
      × AreBelow (length shape.interest.replicas) (list_of items)
      × (keeps_one shape.interest (list_of items) shape.site ≡ true)
  pub parts : has_parts_here shape (items_of p.label.kind) p.values ≡ true
  pub from : p.label.point.site < shape.sites

-- a beat with one count for each gear, and with a close cut of each of the first few epochs
pub record IsBeatOf (gears epochs : ℕ) (beat : Beat) : Type 0 where
  pub counts : length beat.counts ≡ gears
  pub closes : length beat.closes ≤ epochs

-- the sink of the site, with a row for each gear. What it sent last is of the site
pub record HasSink (shape : Shape) (sink : Sink) : Type 0 where
  pub own : sink.site ≡ shape.site
  pub promises : length sink.promises ≡ shape.gears
  pub rows : length sink.pending ≡ shape.gears
  pub last : sink.last.site ≡ shape.site

-- each label that waits to be sent is one that the site made
abbrev pub HasPending : Shape → Sink → Type 0
HasPending shape sink = (g : ℕ) (l : Label) → In (get_or sink.pending g []) l → IsMadeHere shape l

-- the epochs of the site, with a place for each site
pub record HasEpochs (shape : Shape) (views : Epochs) : Type 0 where
  pub sound : IsEpochs views
  pub own : views.site ≡ shape.site
  pub heard : length views.heard ≡ shape.sites

-- what the site has of the others: of each update that waits it keeps an item
pub record HasPeers (shape : Shape) (proxy : ProxySeen) : Type 0 where
  pub sound : IsProxy proxy
  pub sites : proxy.sites ≡ shape.sites
  pub gears : proxy.gears ≡ shape.gears
  pub own : proxy.site ≡ shape.site
  pub waiting : (p : Payload) → In (all_waiting proxy.pool) p → IsGuest shape p

-- the beats that the site made for each site
pub record HasBeats (shape : Shape) (epochs : ℕ) (made : List (List Beat)) : Type 0 where
  pub count : length made ≡ shape.sites
  pub each : (j n : ℕ) (beat : Beat) → slice_get (get_or made j []) n ≡ Some beat → IsBeatOf shape.gears epochs beat

-- what holds of a hub at all times: its parts are of one shape, with a row for each gear, site and epoch
pub record IsHub (x : HubSeen) : Type 0 where
  pub shape : IsShape x.shape
  pub sink : HasSink x.shape x.sink
  pub pending : HasPending x.shape x.sink
  pub counts : length x.counts ≡ x.shape.gears
  pub views : HasEpochs x.shape x.views
  pub proxy : HasPeers x.shape x.proxy
  pub made : HasBeats x.shape (length x.views.stamp) x.made

-- what a gear gave: labels that the site made, and one count for each site
pub record IsGiven (shape : Shape) (d : Drained) : Type 0 where
  pub labels : (l : Label) → In d.labels l → IsMadeHere shape l
  pub counts : length d.counts ≡ shape.sites

-- what the gears of the site gave, in their order: it goes on from what the sink gathered
pub record IsGather (x : HubSeen) (drained : List Drained) : Type 0 where
  pub drain : IsDrain x.sink drained
  pub given : (g : ℕ) (d : Drained) → slice_get drained g ≡ Some d → IsGiven x.shape d
