-- What stays where it is to the end of a history: the clients at their seats, and the sites that have closed or
-- advanced. Each has a line to below the last row.
use Rattle.std.specs.Prelude.{ℕ, zero, suc, List, [], ◌∷◌, ◌++◌, length, Option, Some, None}
use Rattle.sat_act.specs.declared.entry.Entry.{Entry}
use Rattle.sat_act.specs.Deployed.{Deployed}
use Rattle.sat_act.specs.Parts.{seat}
use Rattle.sat_draw.specs.declared.element.Ink.{Ink}
use Rattle.sat_draw.specs.declared.element.Ink.TheVariants as ink
use Rattle.sat_draw.specs.declared.element.Spot.{Spot}
use Rattle.sat_draw.specs.declared.element.Element.{Element}
use Rattle.sat_draw.specs.declared.element.Element.TheVariants.{Rest}
use Rattle.sat_draw.specs.declared.trail.Trail.{Trail}
use Rattle.sat_draw.specs.declared.trail.TheConstants.{SEATED}
use Rattle.sat_draw.specs.Columns.{row_y}
use Rattle.sat_draw.specs.Trails.{client_at, closing, viewing}
use Rattle.sat_draw.specs.Rows.{spot_at, first_spot, begin, last_spot}
use Rattle.sat_draw.specs.Lost.{lost_spot}

-- straight down to y from where a trail was left, if it was
abbrev pub rest : Ink → Trail → ℕ → Option Spot → List Element
rest ink t y None = []
rest ink t y (Some there) = Rest ink t there (spot_at there.x y) ∷ []

-- a client at its seat
abbrev pub client_rest : (Trail → Option Spot) → ℕ → ℕ → Option ℕ → List Element
client_rest found y c None = []
client_rest found y c (Some i) = rest ink.Seat (client_at SEATED c) y (found (client_at SEATED c))

-- the first n clients, by their seats and by where trails were left
unfoldable pub client_rests : (ℕ → Option ℕ) → (Trail → Option Spot) → ℕ → ℕ → List Element
client_rests seats found y zero = []
client_rests seats found y (suc c) = client_rests seats found y c ++ client_rest found y c (seats c)

-- a site that has closed, or that has advanced and not closed since
abbrev pub site_rest : (Trail → Option Spot) → ℕ → ℕ → List Element
site_rest left y i =
    rest ink.Switch (closing i) y (left (closing i)) ++ rest ink.View (viewing i) y (left (viewing i))

-- the first n sites, by what is still under way
unfoldable pub site_rests : (Trail → Option Spot) → ℕ → ℕ → List Element
site_rests left y zero = []
site_rests left y (suc i) = site_rests left y i ++ site_rest left y i

-- all of these, by what is known of seats and trails
abbrev pub rests_by : Deployed → (ℕ → Option ℕ) → (Trail → Option Spot) → (Trail → Option Spot) → ℕ → List Element
rests_by d seats found left y =
    client_rests seats (begin d found) y (length d.clients) ++ site_rests left y d.sites

-- those of a history
unfoldable pub rests : Deployed → List Entry → List Element
unfolding client_rests site_rests first_spot last_spot lost_spot seat
rests d h = rests_by d (seat d h) (last_spot d h) (lost_spot d h) (row_y d (length h))
