-- What a hub asks of what it is handed.
use Rattle.std.specs.Prelude.{ℕ, ◌≡◌, ◌<◌, ◌+◌, ◌^◌, ◌==◌, Bool, true, false, ◌&&◌, ◌||◌, not, nat_le, nat_lt}
use Rattle.std.specs.Prelude.{List, length, slice_get, Option, Some, None, is_none}
use Rattle.std.specs.List.{list_all}
use Rattle.sat_label.specs.declared.carried.Carried.{Carried}
use Rattle.sat_label.specs.declared.items.Items.{Items}
use Rattle.sat_label.specs.declared.label.Kind.{Kind}
use Rattle.sat_label.specs.declared.label.Kind.TheVariants as kind
use Rattle.sat_label.specs.declared.label.Label.{Label}
use Rattle.sat_label.specs.declared.point.Point.{Point}
use Rattle.sat_label.specs.Grouped.{are_items, list_of}
use Rattle.sat_label.specs.Members.{In}
use Rattle.sat_label.specs.Words.{below}
use Rattle.sat_bulk.specs.Payloads.{Payload}
use Rattle.sat_bulk.specs.Windows.{has_number}
use Rattle.sat_bulk.specs.declared.Drained.{Drained}
use Rattle.sat_beat.specs.declared.Beat.{Beat}
use Rattle.sat_pool.specs.Pool.{waiting_at}
use Rattle.sat_proxy.specs.Proxy.{ProxySeen, window_of}
use Rattle.sat_proxy.specs.Steps.{turn_fault}
use Rattle.sat_sites.specs.Interested.{are_below, keeps_one}
use Rattle.sat_sites.specs.declared.shape.Shape.{Shape}
use Rattle.sat_act.specs.Parts.{items_of}
use Rattle.sat_model.specs.Fits.{is_time}
use Rattle.sat_hub.specs.Seen.{HubSeen, IsGuest, has_parts_here}

-- ---- numbers and points, by the shape of the site

abbrev pub is_site_here : Shape → ℕ → Bool
is_site_here shape k = nat_lt k shape.sites

abbrev pub is_item_here : Shape → ℕ → Bool
is_item_here shape n = nat_lt n (length shape.interest.replicas)

abbrev pub is_gear_here : Shape → ℕ → Bool
is_gear_here shape g = nat_lt g shape.gears

-- a point with a timestamp, and of one of the sites
abbrev pub is_point_here : Shape → Point → Bool
is_point_here shape p = is_time p.ts && is_site_here shape p.site

-- another site
abbrev pub is_other_here : Shape → ℕ → Bool
is_other_here shape k = is_site_here shape k && not (k == shape.site)

-- where a client is moving to: nowhere, or to a site
abbrev pub is_goal_here : Shape → Option ℕ → Bool
is_goal_here shape o = elim o [ None ↦ true | Some j ↦ is_site_here shape j ]

abbrev pub is_carried_here : Shape → Carried → Bool
is_carried_here shape seen = is_point_here shape seen.point && is_goal_here shape seen.moving

-- ---- fronts and payloads

-- the items of one update, which ascend, and each of which is one of the deployment's
abbrev pub is_group_here : Shape → Items → Bool
is_group_here shape items = are_items (list_of items) && are_below (length shape.interest.replicas) (list_of items)

-- a kind that names items, which ascend, or a site of the deployment, and of closes one of the view's epoch
abbrev pub is_kind_here : Shape → ℕ → Kind → Bool
is_kind_here shape view (kind.Update items) = is_group_here shape items
is_kind_here shape view (kind.Move j) = is_site_here shape j
is_kind_here shape view kind.Pulse = true
is_kind_here shape view (kind.Close e) = e == view

-- a label that another site sent
abbrev pub is_front_here : Shape → ℕ → Label → Bool
is_front_here shape view l = is_time l.point.ts && (is_other_here shape l.point.site && is_kind_here shape view l.kind)

-- an update of items of the deployment, which ascend, and of which the site keeps one
abbrev pub is_kept_here : Shape → Kind → Bool
is_kept_here shape (kind.Update items) =
    is_group_here shape items && keeps_one shape.interest (list_of items) shape.site
is_kept_here shape _ = false

-- an update that another site made, of which this one keeps an item
abbrev pub is_guest_here : Shape → ℕ → Label → Bool
is_guest_here shape from l = (is_time l.point.ts && (l.point.site == from)) && is_kept_here shape l.kind

-- a payload of a lane of another site, with a value for each item that the site keeps. Where its number is new, no
-- payload that waits has its point
abbrev pub is_bulk_here : Shape → ProxySeen → ℕ → ℕ → ℕ → Payload → Bool
is_bulk_here shape proxy from gear number p =
    (is_other_here shape from && is_gear_here shape gear)
    && ((is_guest_here shape from p.label && has_parts_here shape (items_of p.label.kind) p.values)
    && (has_number (window_of proxy from gear) number || is_none (waiting_at proxy.pool p.label.point)))

-- ---- beats

-- a close cut, if there is one
abbrev pub is_cut_here : Shape → Option Point → Bool
is_cut_here shape o = elim o [ None ↦ true | Some p ↦ is_point_here shape p ]

-- a beat whose cut, and close cut of each of so many epochs, if any, are points
abbrev pub is_beat_here : Shape → ℕ → Beat → Bool
is_beat_here shape epochs beat =
    is_point_here shape beat.cut && list_all (λ n. is_cut_here shape (slice_get beat.closes n)) (below epochs)

-- a beat with one count for each gear, and at most as many close cuts as there are epochs
abbrev pub is_counted : HubSeen → Beat → Bool
is_counted x beat = (length beat.counts == x.shape.gears) && nat_le (length beat.closes) (length x.views.stamp)

-- ---- what gears give

-- an update or a move of the deployment, which is not for the site itself
abbrev pub is_own_kind_here : Shape → Kind → Bool
is_own_kind_here shape (kind.Update items) = are_below (length shape.interest.replicas) (list_of items)
is_own_kind_here shape (kind.Move j) = is_other_here shape j
is_own_kind_here shape _ = false

-- a label that the site made
abbrev pub is_own_here : Shape → Label → Bool
is_own_here shape l = (l.point.site == shape.site) && is_own_kind_here shape l.kind

-- labels that the site made, and one count for each site
abbrev pub is_given_here : Shape → Drained → Bool
is_given_here shape d = list_all (is_own_here shape) d.labels && (length d.counts == shape.sites)

-- ---- what the code uses of it

-- a label of another site; if it is a Close, then of the view's epoch
pub record IsFront (x : HubSeen) (l : Label) : Type 0 where
  pub from : l.point.site < x.shape.sites
  pub other : (l.point.site == x.shape.site) ≡ false
  pub close : (e : ℕ) → l.kind ≡ kind.Close e → e ≡ x.views.view

-- a payload of a lane that fits
pub record BulkFits (x : HubSeen) (from gear n : ℕ) (p : Payload) : Type 0 where
  pub sender : from < x.shape.sites
  pub number : gear < x.shape.gears
  pub small : n < 2 ^ 63
  pub made : p.label.point.site ≡ from
  pub guest : IsGuest x.shape p
  pub alone : has_number (window_of x.proxy from gear) n ≡ false → waiting_at x.proxy.pool p.label.point ≡ None

-- payloads of a lane that fit, with the numbers from one on
pub record BulksFit (x : HubSeen) (from gear first : ℕ) (ps : List Payload) : Type 0 where
  pub sender : from < x.shape.sites
  pub number : gear < x.shape.gears
  pub small : first + length ps < 2 ^ 63
  pub made : (p : Payload) → In ps p → p.label.point.site ≡ from
  pub guests : (p : Payload) → In ps p → IsGuest x.shape p

-- ---- what may be done

-- whether a turn with this front is one, and does something
abbrev pub may_turn : HubSeen → Option Label → Bool
may_turn x None = false
may_turn x (Some l) = is_front_here x.shape x.views.view l && is_none (turn_fault x.views x.proxy (Some l))
