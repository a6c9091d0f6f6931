-- Where a point stands in a queue of the payloads of one gear, which ascend.
use Rattle.std.specs.Prelude.{ℕ, zero, suc, ◌≡◌, Bool, true, false, List, [], ◌∷◌, Option, Some, None, if◌then◌else◌}
use Rattle.sat_label.specs.declared.point.Point.{Point}
use Rattle.sat_label.specs.declared.label.Label.{Label}
use Rattle.sat_label.specs.Order.{label_eq, point_lt, point_eq}
use Rattle.sat_label.specs.Members.{In}
use Rattle.sat_bulk.specs.Payloads.{Payload}

-- a payload, if it is at a point
abbrev pub if_at : Option Payload → Point → Option Payload
if_at None q = None
if_at (Some p) q = if point_eq p.label.point q then Some p else None

-- whether a payload, if there is one, is that of a label
abbrev pub is_labelled : Option Payload → Label → Bool
is_labelled None l = false
is_labelled (Some p) l = label_eq p.label l

-- how many stand in front of the first whose point is not below this one
abbrev pub place_of : List Payload → Point → ℕ
place_of [] q = zero
place_of (p ∷ ps) q = if point_lt p.label.point q then suc (place_of ps q) else zero

-- all points are below this one
pub record AreBelow (ps : List Payload) (q : Point) : Type 0 where
  pub each : (p : Payload) → In ps p → point_lt p.label.point q ≡ true
