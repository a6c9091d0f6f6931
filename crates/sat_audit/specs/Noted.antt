-- What is kept beside the entries that were heard.
use Rattle.std.specs.Prelude.{◌≡◌, List, Bool, false, ◌||◌, None, Some}
use Rattle.std.specs.Ordering.{nat_cmp, ordering_then}
use Rattle.std.specs.declared.cmp.Ordering.{Ordering}
use Rattle.std.specs.BTreeSet.{BTreeSet, contains}
use Rattle.sat_label.specs.Order.{point_eq}
use Rattle.sat_label.specs.declared.point.Point.{Point}
use Rattle.sat_audit.specs.Lines.{was_made}
use Rattle.sat_audit.specs.Told.{made_in}
use Rattle.sat_audit.specs.declared.heard.Heard.{Heard}
use Rattle.sat_audit.specs.declared.told.Told.{Told}

-- how points compare, as the set compares them
abbrev pub point_cmp : Point → Point → Ordering
point_cmp p q = ordering_then (nat_cmp p.ts q.ts) (ordering_then (nat_cmp p.site q.site) (nat_cmp p.gear q.gear))

-- what is told makes the point
abbrev pub tells_made : Told → Point → Bool
tells_made told p = elim (made_in told) [ None ↦ false | Some made ↦ point_eq made p ]

-- the set has the points that it had, and the one that what is told makes
abbrev pub HasMore : BTreeSet Point → BTreeSet Point → Told → Type 0
HasMore old new told = (p : Point) → contains point_cmp new p ≡ (contains point_cmp old p || tells_made told p)

-- the set has the points that were made
abbrev pub HasMade : BTreeSet Point → List Heard → Type 0
HasMade made heard = (p : Point) → contains point_cmp made p ≡ was_made heard p
