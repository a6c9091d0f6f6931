-- What is kept of the updates that wait: queues of those that came in order, a map from points to payloads of the
-- others, the first label where it is known, and how many there are.
use Rattle.std.specs.Prelude.{ℕ, ◌≡◌, ◌<◌, Bool, true, false, List, [], ◌∷◌, get_or, length, map, Option, Some, None}
use Rattle.std.specs.Prelude.{if◌then◌else◌}
use Rattle.std.specs.List.{flat_map}
use Rattle.std.specs.Map.{values_of}
use Rattle.std.specs.Ordering.{nat_cmp, ordering_then}
use Rattle.std.specs.declared.cmp.Ordering.{Ordering}
use Rattle.sat_label.specs.declared.point.Point.{Point}
use Rattle.sat_label.specs.declared.label.Label.{Label}
use Rattle.sat_label.specs.Order.{point_eq, point_lt}
use Rattle.sat_label.specs.Members.{In}
use Rattle.sat_bulk.specs.Payloads.{Payload}
use Rattle.sat_pool.specs.Pool.{Waiting, all_waiting, at_point, placed, IsPool, IsRow}
use Rattle.sat_pool.specs.Places.{AreBelow}

-- how points compare, as the map compares them
abbrev pub point_cmp : Point → Point → Ordering
point_cmp p q = ordering_then (nat_cmp p.ts q.ts) (ordering_then (nat_cmp p.site q.site) (nat_cmp p.gear q.gear))

-- each payload under its point
abbrev pub keyed : List Payload → List (Point × Payload)
keyed ps = map (λ p. (p.label.point, p)) ps

-- points ascend
abbrev pub Ascends : List Payload → Type 0
Ascends [] = Unit {0}
Ascends (p ∷ ps) = ((q : Payload) → In ps q → point_lt p.label.point q.label.point ≡ true) × Ascends ps

-- the label of the first
abbrev pub first_label : List Payload → Option Label
first_label [] = None
first_label (p ∷ ps) = Some p.label

-- they are of one site, and ascend
abbrev pub OfOneSite : List Payload → Type 0
OfOneSite ps = (k : ℕ) × IsRow k ps

-- a map's keys are the points of its payloads, and these ascend
pub record IsKeptRow (entries : List (Point × Payload)) : Type 0 where
  pub keys : entries ≡ keyed (values_of entries)
  pub ascends : Ascends (values_of entries)

-- ---- a site's queues, by gear, and the others beside them

-- what waits in queues
abbrev pub flat : List (List Payload) → List Payload
flat queues = flat_map (λ queue. queue) queues

-- each at its place by its point
abbrev pub placed_all : List Payload → List Payload → List Payload
placed_all [] base = base
placed_all (p ∷ ps) base = placed (placed_all ps base) p

-- all that waits of the site
abbrev pub row_view : List (List Payload) → List Payload → List Payload
row_view queues others = placed_all (flat queues) others

-- points ascend in each queue, whose gear all of it is of, and among the others; and no point stands in both
pub record IsParts (queues : List (List Payload)) (others : List Payload) : Type 0 where
  pub gears : (g : ℕ) (x : Payload) → In (get_or queues g []) x → x.label.point.gear ≡ g
  pub rises : (g : ℕ) → Ascends (get_or queues g [])
  pub aside : Ascends others
  pub apart : (g : ℕ) (x y : Payload) → In (get_or queues g []) x → In others y
      → point_eq x.label.point y.label.point ≡ false

-- the first label is kept, where it is known
pub record IsKept (queues : List (List Payload)) (others : List Payload) (kept : Option Label) (knows : Bool)
    : Type 0 where
  pub parts : IsParts queues others
  pub first : knows ≡ true → kept ≡ first_label (row_view queues others)

-- the same waits in them
pub record SameQueues (queues after : List (List Payload)) : Type 0 where
  pub all : flat after ≡ flat queues
  pub each : (g : ℕ) → get_or after g [] ≡ get_or queues g []

-- the queue of a point's gear is there, all its points are below, and none of the others has it
pub record MayStand (queues : List (List Payload)) (others : List Payload) (q : Point) : Type 0 where
  pub within : q.gear < length queues
  pub below : AreBelow (get_or queues q.gear []) q
  pub alone : at_point others q ≡ None

-- whether a label, if there is one, is at a point
abbrev pub stands_at : Option Label → Point → Bool
stands_at None q = false
stands_at (Some l) q = point_eq l.point q

-- whether a label, if there is one, is below a point
abbrev pub stands_below : Option Label → Point → Bool
stands_below None q = false
stands_below (Some l) q = point_lt l.point q

-- the first label, once one more came
abbrev pub sets_first : Option Label → Label → Option Label
sets_first None l = Some l
sets_first (Some m) l = if point_lt m.point l.point then Some m else Some l

-- the count is that of all that waits
pub record IsKeptPool (w : Waiting) (count : ℕ) : Type 0 where
  pub pool : IsPool w
  pub counts : count ≡ length (all_waiting w)
