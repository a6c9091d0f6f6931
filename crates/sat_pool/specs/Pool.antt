-- The updates that wait at a site, by the site that made them: what is read off them, and what the calls make of them.
use Rattle.std.specs.Prelude.{ℕ, ◌≡◌, Bool, true, ◌&&◌, not, ◌==◌, nat_le, List, [], ◌∷◌, map, filter, get_or, set}
use Rattle.std.specs.Prelude.{replicate, Option, Some, None, if◌then◌else◌}
use Rattle.std.specs.List.{flat_map, list_any}
use Rattle.sat_label.specs.declared.point.Point.{Point}
use Rattle.sat_label.specs.declared.label.Label.{Label}
use Rattle.sat_label.specs.Order.{label_eq, point_lt, point_le, point_eq}
use Rattle.sat_label.specs.Least.{least_label}
use Rattle.sat_label.specs.Members.{In}
use Rattle.sat_bulk.specs.Payloads.{Payload}

-- for each site the payloads of its updates that wait, ascending by their points
pub record Waiting : Type 0 where
  pub rows : List (List Payload)

-- of so many sites nothing waits
abbrev pub none_waiting : ℕ → Waiting
none_waiting sites = record { rows = replicate sites [] }

-- ---- what is read off it

-- what waits of a site
abbrev pub row_of : Waiting → ℕ → List Payload
row_of w k = get_or w.rows k []

-- all that waits, site by site
abbrev pub all_waiting : Waiting → List Payload
all_waiting w = flat_map (λ row. row) w.rows

abbrev pub labelled : Payload → Label
labelled p = p.label

-- the labels of all that waits
abbrev pub labels_waiting : Waiting → List Label
labels_waiting w = map labelled (all_waiting w)

-- the payload of some with this point
abbrev pub at_point : List Payload → Point → Option Payload
at_point [] q = None
at_point (p ∷ ps) q = if point_eq p.label.point q then Some p else at_point ps q

-- the waiting payload with this point
abbrev pub waiting_at : Waiting → Point → Option Payload
waiting_at w q = at_point (row_of w q.site) q

-- the waiting payload of a label
abbrev pub waiting_of : Waiting → Label → Option Payload
waiting_of w l = elim (waiting_at w l.point) [ None ↦ None | Some p ↦ if label_eq p.label l then Some p else None ]

-- of one site's payloads that of a label, so that `waiting_of w l` is that of its site
abbrev pub row_waiting_of : List Payload → Label → Option Payload
row_waiting_of ps l = elim (at_point ps l.point) [ None ↦ None | Some p ↦ if label_eq p.label l then Some p else None ]

-- whether a label is not past the close cut of its site, if one is given
abbrev pub is_before : List (Option Point) → Label → Bool
is_before closes l = elim (get_or closes l.point.site None) [ None ↦ true | Some p ↦ point_le l.point p ]

-- the least waiting label that is not past the close cut of its site
abbrev pub least_before : List (Option Point) → Waiting → Option Label
least_before closes w = least_label (is_before closes) (labels_waiting w)

-- whether a label with a timestamp up to this one waits
abbrev pub has_ts_to : ℕ → Waiting → Bool
has_ts_to ts w = list_any (λ l. nat_le l.point.ts ts) (labels_waiting w)

-- whether a label of this site with a point up to this one waits
abbrev pub has_up_to : ℕ → Point → Waiting → Bool
has_up_to k p w = list_any (λ l. (l.point.site == k) && point_le l.point p) (labels_waiting w)

-- ---- what the calls make of it

-- a payload at its place by its point
abbrev pub placed : List Payload → Payload → List Payload
placed [] p = p ∷ []
placed (q ∷ qs) p = if point_lt p.label.point q.label.point then p ∷ q ∷ qs
    else (if point_eq p.label.point q.label.point then p ∷ qs else q ∷ placed qs p)

-- those without this point
abbrev pub without : List Payload → Point → List Payload
without ps q = filter (λ p. not (point_eq p.label.point q)) ps

-- those of one site without the payload of a label, if it was there
abbrev pub row_after_take_of : List Payload → Label → Option Payload → List Payload
row_after_take_of ps l None = ps
row_after_take_of ps l (Some p) = without ps l.point

-- one payload more waits
abbrev pub after_add : Waiting → Payload → Waiting
after_add w p = record { rows = set w.rows p.label.point.site (placed (row_of w p.label.point.site) p) }

-- the payload with this point waits no more
abbrev pub after_take : Waiting → Point → Waiting
after_take w q = record { rows = set w.rows q.site (without (row_of w q.site) q) }

-- the payload of a label waits no more, if it did
abbrev pub after_take_of : Waiting → Label → Option Payload → Waiting
after_take_of w l None = w
after_take_of w l (Some p) = after_take w l.point

-- ---- what is true of it

-- points ascend, and each is of this site
abbrev pub IsRow : ℕ → List Payload → Type 0
IsRow k [] = Unit {0}
IsRow k (p ∷ ps) =
    (p.label.point.site ≡ k) × ((q : Payload) → In ps q → point_lt p.label.point q.label.point ≡ true) × IsRow k ps

-- what holds of what waits at all times: each site's row holds payloads of its own labels
pub record IsPool (w : Waiting) : Type 0 where
  pub each : (k : ℕ) → IsRow k (row_of w k)
