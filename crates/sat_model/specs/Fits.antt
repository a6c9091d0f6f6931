-- What fits a site: tests of an input by the deployment and the site's state, which all that a world hands to it
-- passes.
use Rattle.std.specs.Prelude.{ℕ, ◌+◌, Bool, true, false, ◌&&◌, ◌||◌, not, ◌==◌, nat_le, nat_lt, List, [], ◌∷◌, length}
use Rattle.std.specs.Prelude.{Option, Some, None, is_some}
use Rattle.std.specs.List.{list_all, list_any}
use Rattle.sat_label.specs.declared.carried.Carried.{Carried}
use Rattle.sat_label.specs.declared.items.Items.{Items}
use Rattle.sat_label.specs.declared.label.Kind.{Kind}
use Rattle.sat_label.specs.declared.label.Kind.TheVariants as kind
use Rattle.sat_label.specs.declared.label.Label.{Label}
use Rattle.sat_label.specs.declared.limits.TheConstants.{TS_END}
use Rattle.sat_label.specs.declared.point.Point.{Point}
use Rattle.sat_label.specs.Grouped.{are_items, list_of}
use Rattle.sat_label.specs.Order.{point_eq}
use Rattle.sat_label.specs.Words.{below, has}
use Rattle.sat_act.specs.Deployed.{Deployed}
use Rattle.sat_act.specs.Parts.{BeatNote, replicates, keeps_some, items_of}
use Rattle.sat_bulk.specs.Payloads.{Payload}
use Rattle.sat_model.specs.State.{SiteState}
use Rattle.sat_model.specs.Input.{SiteInput}
use Rattle.sat_model.specs.Input as given
use Rattle.sat_model.specs.Look.{waiting_of}

-- ---- numbers and points of a deployment

-- a number of a site
abbrev pub is_site : Deployed → ℕ → Bool
is_site d i = nat_lt i d.sites

-- a number of an item
abbrev pub is_item : Deployed → ℕ → Bool
is_item d x = nat_lt x (length d.items)

-- each a number of an item
abbrev pub are_known : Deployed → List ℕ → Bool
are_known d xs = list_all (is_item d) xs

-- the items of one update, which ascend, and each of which is known
abbrev pub is_group : Deployed → Items → Bool
is_group d items = are_items (list_of items) && are_known d (list_of items)

-- a number of a gear
abbrev pub is_gear : Deployed → ℕ → Bool
is_gear d g = nat_lt g d.gears

-- a timestamp, of which `TS_END` is the last
abbrev pub is_time : ℕ → Bool
is_time ts = nat_le ts TS_END

-- a point with such a timestamp, and of one of the sites
abbrev pub is_point : Deployed → Point → Bool
is_point d p = is_time p.ts && is_site d p.site

-- a site other than i
abbrev pub is_other : Deployed → ℕ → ℕ → Bool
is_other d i k = is_site d k && not (k == i)

-- where a client is moving to: nowhere, or to a site
abbrev pub is_goal : Deployed → Option ℕ → Bool
is_goal d o = elim o [ None ↦ true | Some j ↦ is_site d j ]

-- what a client carries: a point, and where it is moving to
abbrev pub is_carried : Deployed → Carried → Bool
is_carried d seen = is_point d seen.point && is_goal d seen.moving

-- ---- the front of a link

-- a kind that names items, which ascend, or a site of the deployment, and of closes one of the view's epoch
abbrev pub is_kind : Deployed → ℕ → Kind → Bool
is_kind d view (kind.Update items) = is_group d items
is_kind d view (kind.Move j) = is_site d j
is_kind d view kind.Pulse = true
is_kind d view (kind.Close e) = e == view

-- a label that another site sent, which site i finds at the front of its link
abbrev pub is_front : Deployed → ℕ → SiteState → Label → Bool
is_front d i s l = is_time l.point.ts && (is_other d i l.point.site && is_kind d s.views.view l.kind)

-- ---- payloads

-- an update of items of the deployment, which ascend, and of which site i keeps one
abbrev pub is_kept_kind : Deployed → ℕ → Kind → Bool
is_kept_kind d i (kind.Update items) = is_group d items && keeps_some d (list_of items) i
is_kept_kind d i _ = false

-- as many parts as items, and a value for each item that site i keeps
abbrev pub has_parts : Deployed → ℕ → List ℕ → List (Option (List ℕ)) → Bool
has_parts d i [] [] = true
has_parts d i [] (p ∷ ps) = false
has_parts d i (x ∷ xs) [] = false
has_parts d i (x ∷ xs) (p ∷ ps) = (not (replicates d x i) || is_some p) && has_parts d i xs ps

-- a point that none of these labels has
abbrev pub is_new_point : List Label → Point → Bool
is_new_point labels p = not (list_any (λ l. point_eq l.point p) labels)

-- a payload of a lane of another site for site i: an update that it made, of which site i keeps an item, with a value
-- for each item that site i keeps. Where its number was not taken before, its point is that of no update that waits
abbrev pub is_bulk : Deployed → ℕ → SiteState → ℕ → ℕ → ℕ → Payload → Bool
is_bulk d i s from gear number p =
    (is_other d i from && is_gear d gear)
    && ((((is_time p.label.point.ts && (p.label.point.site == from)) && is_kept_kind d i p.label.kind)
    && has_parts d i (items_of p.label.kind) p.values)
    && (has ◌==◌ (s.proxy.taken from gear) number || is_new_point (waiting_of s) p.label.point))

-- ---- beats

-- the close cut of an epoch in a beat, if it has one
abbrev pub is_close_cut : Deployed → Option Point → Bool
is_close_cut d o = elim o [ None ↦ true | Some p ↦ is_point d p ]

-- a beat whose cut, and close cut of each epoch, if any, are points. Epochs count from 1
abbrev pub is_note : Deployed → BeatNote → Bool
is_note d note = is_point d note.cut && list_all (λ n. is_close_cut d (note.closes (n + 1))) (below (length d.plans))

-- ---- inputs

-- whether an input fits a site in this state. Nothing is asked of the number of a payload or of a beat, of a value, or
-- of whom the front of a link is for
unfoldable pub fits : Deployed → ℕ → SiteState → SiteInput → Bool
fits d i s (given.Tick g ts) = is_gear d g && is_time ts
fits d i s (given.Clock ts) = is_time ts
fits d i s (given.Write seen items values) =
    is_carried d seen && (is_group d items && (length values == length (list_of items)))
fits d i s (given.Read seen x) = is_carried d seen && is_item d x
fits d i s (given.Move seen j) = is_carried d seen && is_site d j
fits d i s (given.Attach seen) = is_carried d seen
fits d i s given.Gather = true
fits d i s given.Emit = true
fits d i s given.Pulse = true
fits d i s (given.Turn None) = true
fits d i s (given.Turn (Some l)) = is_front d i s l
fits d i s (given.Bulk from gear number p) = is_bulk d i s from gear number p
fits d i s (given.Beat j) = is_other d i j
fits d i s (given.BeatIn from number note) = is_other d i from && is_note d note
fits d i s given.Stamp = true
fits d i s given.Close = true
fits d i s given.Fall = true
fits d i s given.Advance = true
