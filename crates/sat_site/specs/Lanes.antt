-- What a site made for the others.
use Rattle.std.specs.Prelude.{ℕ, List, [], None, Some, slice_get}
use Rattle.sat_bulk.specs.Payloads.{Payload}
use Rattle.sat_gear.specs.Gear.{lane_to}
use Rattle.sat_site.specs.Seen.{SiteSeen}

-- the payloads that a gear of the site made for site j
abbrev pub lane_of : SiteSeen → ℕ → ℕ → List Payload
lane_of x g j = elim (slice_get x.gears g) [ None ↦ [] | Some gear ↦ lane_to gear j ]
