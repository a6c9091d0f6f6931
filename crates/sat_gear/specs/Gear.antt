-- A gear: what it keeps, what is read off it, what its calls make of it, and what is true of each.
use Rattle.std.specs.Prelude.{ℕ, ◌≡◌, ◌≤◌, ◌<◌, ◌+◌, ◌/◌, ◌%◌, ◌^◌, Bool, true, ◌||◌, nat_le, nat_lt, max, List, []}
use Rattle.std.specs.Prelude.{◌∷◌, ◌++◌, length, map, replicate, get_or, slice_get, slice_set, Option, None, Some}
use Rattle.std.specs.Prelude.{if◌then◌else◌}
use Rattle.std.specs.Int.{div_ceil}
use Rattle.std.specs.List.{list_all}
use Rattle.sat_label.specs.declared.point.Point.{Point}
use Rattle.sat_label.specs.declared.label.Kind.{Kind}
use Rattle.sat_label.specs.declared.items.Items.{Items}
use Rattle.sat_label.specs.declared.label.Kind.TheVariants.{Update, Move}
use Rattle.sat_label.specs.declared.label.Label.{Label}
use Rattle.sat_label.specs.Grouped.{least_item, list_of}
use Rattle.sat_label.specs.Order.{kind_numbers, point_at}
use Rattle.sat_bulk.specs.declared.Drained.{Drained}
use Rattle.sat_bulk.specs.Payloads.{Payload}
use Rattle.sat_label.specs.Members.{In}
use Rattle.sat_bulk.specs.Drains.{Rises, IsNew}
use Rattle.sat_sites.specs.Interested.{AreBelow, Interested, IsInterest, is_for, keeps}
use Rattle.sat_sites.specs.declared.shape.Shape.{Shape}
use Rattle.sat_label.specs.Versions.{Version}
use Rattle.sat_gear.specs.Lanes.{lanes_where, numbers_where, count_of}
use Rattle.sat_store.specs.Stored.{version_at, newer}

-- what the gear was made from; its promise, and what that was at the last drain; the labels made since then; for each
-- site the payloads made for it, in their order; and the versions of its items: that of item x at place x / gears
pub record GearSeen : Type 0 where
  pub shape : Shape
  pub gear : ℕ
  pub promise : ℕ
  pub drained_promise : ℕ
  pub fresh : List Label
  pub lanes : List (List Payload)
  pub versions : List (Option Version)

-- how many of so many items one of so many gears may have
abbrev pub places : ℕ → ℕ → ℕ
places items gears = div_ceil items gears

abbrev pub fresh_gear : Shape → ℕ → GearSeen
fresh_gear shape gear = record {
  shape = shape;
  gear = gear;
  promise = 0;
  drained_promise = 0;
  fresh = [];
  lanes = replicate shape.sites [];
  versions = replicate (places (length shape.interest.replicas) shape.gears) None;
}

-- ---- what is read off it

abbrev pub lane_to : GearSeen → ℕ → List Payload
lane_to s j = get_or s.lanes j []

abbrev pub version_of : GearSeen → ℕ → Option Version
version_of s x = version_at s.versions (x / s.shape.gears)

-- above all that the gear stamped, and all that the client saw
abbrev pub stamp_base : GearSeen → Point → ℕ
stamp_base s seen = max s.promise seen.ts

-- the label that the gear stamps next for a client that saw a point
abbrev pub stamped : GearSeen → Point → Kind → Label
stamped s seen kind = record { point = point_at (stamp_base s seen + 1) s.shape.site s.gear; kind = kind }

-- no timestamp is left
abbrev pub is_spent : GearSeen → Point → Bool
is_spent s seen = nat_le (2 ^ 62) (stamp_base s seen)

-- of the lanes from that of site k on, those of a label's targets: how many payloads each holds
abbrev pub numbers_from : Interested → Label → ℕ → List (List Payload) → List ℕ
numbers_from a l k lanes = numbers_where (is_for a l) k lanes

-- the number that a label's payload gets in the lane of each target, the targets ascending
abbrev pub lane_numbers : GearSeen → Label → List ℕ
lane_numbers s l = numbers_from s.shape.interest l 0 s.lanes

-- what a gather takes
abbrev pub drained_of : GearSeen → Drained
drained_of s = record { labels = s.fresh; promise = s.promise; counts = map count_of s.lanes }

-- ---- what the calls make of it

-- the lanes from that of site k on, with a payload behind those of its targets
abbrev pub lanes_from : Interested → Payload → ℕ → List (List Payload) → List (List Payload)
lanes_from a p k lanes = lanes_where (is_for a p.label) p k lanes

-- a tick: the promise rises to t, and never falls
abbrev pub after_tick : GearSeen → ℕ → GearSeen
after_tick s t = record s { promise = max s.promise t }

-- a label of the gear's, and its timestamp as the new promise
abbrev pub after_move : GearSeen → Label → GearSeen
after_move s l = record s { promise = l.point.ts; fresh = s.fresh ++ l ∷ [] }

-- a version of item x: the greater one stays
abbrev pub after_show : GearSeen → ℕ → Version → GearSeen
after_show s x v = record s { versions = slice_set s.versions (x / s.shape.gears) (newer (version_of s x) v) }

-- an update with these values, one for each of its items
abbrev pub payload_with : Label → List (List ℕ) → Payload
payload_with l values = record { label = l; values = map Some values }

-- an update: it is made, and joins the lanes of its targets. What it shows here, `after_show` says for each of its
-- items
abbrev pub after_write : GearSeen → Payload → GearSeen
after_write s p = record s {
  promise = p.label.point.ts;
  fresh = s.fresh ++ p.label ∷ [];
  lanes = lanes_from s.shape.interest p 0 s.lanes;
}

-- a gather took its fresh labels, and its promise with them
abbrev pub after_drain : GearSeen → GearSeen
after_drain s = record s { drained_promise = s.promise; fresh = [] }

-- a label was not drained, or the promise is above that at the last drain
abbrev pub is_due : GearSeen → Bool
is_due s = nat_lt 0 (length s.fresh) || nat_lt s.drained_promise s.promise

-- ---- what it asks for

-- a shape of at least one gear, whose interest is one of its sites and of so many items as 16 bits number, and whose
-- site is among these sites
pub record IsShape (shape : Shape) : Type 0 where
  pub interest : IsInterest shape.interest
  pub sites : shape.interest.sites ≡ shape.sites
  pub site : shape.site < shape.sites
  pub gears : 0 < shape.gears
  pub items : length shape.interest.replicas < 2 ^ 16

-- an item of this gear that its site keeps
pub record IsItemOf (s : GearSeen) (x : ℕ) : Type 0 where
  pub item : x < length s.shape.interest.replicas
  pub gear : x % s.shape.gears ≡ s.gear
  pub kept : keeps s.shape.interest x s.shape.site ≡ true

-- items of an update that this gear stamps: the least is an item of the gear, and all are items that its site keeps
pub record AreItemsOf (s : GearSeen) (xs : List ℕ) : Type 0 where
  pub known : AreBelow (length s.shape.interest.replicas) xs
  pub least : IsItemOf s (least_item xs)
  pub kept : list_all (λ x. keeps s.shape.interest x s.shape.site) xs ≡ true

-- the next label that the gear stamps for some client
pub record IsNextStamp (s : GearSeen) (l : Label) : Type 0 where
  pub site : l.point.site ≡ s.shape.site
  pub gear : l.point.gear ≡ s.gear
  pub above : s.promise < l.point.ts
  pub upto : l.point.ts ≤ 2 ^ 62

-- ---- what is true of each

-- an update whose least item is one of this gear, or a move
abbrev pub IsKindHere : GearSeen → Kind → Type 0
IsKindHere s (Update items) = AreItemsOf s (list_of items)
IsKindHere s (Move j) = (j < s.shape.sites) × (s.gear ≡ 0)
IsKindHere s _ = ⊥

-- a label of the gear's that was not drained
pub record IsUndrained (s : GearSeen) (l : Label) : Type 0 where
  pub new : IsNew s.shape.site s.gear s.drained_promise s.promise l
  pub kind : IsKindHere s l.kind

-- a payload of the lane to site j: an update of the gear's, for that site, with a value for each of its items
pub record IsInLane (s : GearSeen) (j : ℕ) (p : Payload) : Type 0 where
  pub site : p.label.point.site ≡ s.shape.site
  pub gear : p.label.point.gear ≡ s.gear
  pub kind : (items : Items) × (p.label.kind ≡ Update items) × AreItemsOf s (list_of items)
  pub values : (values : List (List ℕ)) × (p.values ≡ map Some values)
      × (length values ≡ length (kind_numbers p.label.kind))
  pub target : is_for s.shape.interest p.label j ≡ true
  pub upto : p.label.point.ts ≤ s.promise

-- what holds of a gear at all times: its promise is within the range of timestamps and at or above the last one that
-- a gather took, fresh labels rise and were not drained, a lane for each site holds payloads made for it, and there
-- is a place for each version
pub record IsGear (s : GearSeen) : Type 0 where
  pub shape : IsShape s.shape
  pub gear : s.gear < s.shape.gears
  pub promise : s.promise ≤ 2 ^ 62
  pub drained_promise : s.drained_promise ≤ s.promise
  pub rises : Rises s.fresh
  pub fresh : (l : Label) → In s.fresh l → IsUndrained s l
  pub lanes : length s.lanes ≡ s.shape.sites
  pub payloads : (j n : ℕ) (p : Payload) → slice_get (lane_to s j) n ≡ Some p → IsInLane s j p
  pub versions : length s.versions ≡ places (length s.shape.interest.replicas) s.shape.gears

-- ---- what a write does to each lane

pub record EachLane : Type 0 where
  pub lanes : (a : Interested) (p : Payload) (lanes : List (List Payload)) (j : ℕ) → j < length lanes →
      get_or (lanes_from a p 0 lanes) j []
      ≡ (if is_for a p.label j then get_or lanes j [] ++ p ∷ [] else get_or lanes j [])
  pub count : (a : Interested) (p : Payload) (lanes : List (List Payload))
      → length (lanes_from a p 0 lanes) ≡ length lanes
