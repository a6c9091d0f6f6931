-- Where the paths of clients go: at their seats, by what the history says of these.
use Rattle.std.specs.Prelude.{◌≡◌, ◌⊎◌, ◌<◌, ℕ, List, [], ◌∷◌, ◌++◌, length, Option, Some, None}
use Rattle.sat_label.specs.Members.{In}
use Rattle.sat_act.specs.declared.entry.Entry.{Entry}
use Rattle.sat_act.specs.Deployed.{Deployed}
use Rattle.sat_act.specs.Done.{of_client}
use Rattle.sat_act.specs.Parts.{seat}
use Rattle.sat_act.specs.Runs.{IsRun}
use Rattle.sat_draw.specs.declared.element.Ink.TheVariants as ink
use Rattle.sat_draw.specs.declared.element.Spot.{Spot}
use Rattle.sat_draw.specs.declared.element.Element.TheVariants.{Way, Rest}
use Rattle.sat_draw.specs.declared.trail.TheConstants.{SEATED, AWAY}
use Rattle.sat_draw.specs.Columns.{site_column, column_x, row_y}
use Rattle.sat_draw.specs.Trails.{client_at}
use Rattle.sat_draw.specs.Rows.{spot_at, spot_of, first_spot}
use Rattle.sat_draw.specs.Drawing.{elements}

-- ---- whose entries

-- a history without some of its entries, none of which is a client's
unfoldable pub IsWithout : List Entry → List Entry → Type 0
IsWithout [] g = g ≡ []
IsWithout (entry ∷ h) g =
    ((of_client entry.act ≡ None) × IsWithout h g)
    ⊎ ((rest : List Entry) × (g ≡ entry ∷ rest) × IsWithout h rest)

-- the entries of a run, or what is left of them without some that are no client's, as those that a settle made
pub record IsOfRun (d : Deployed) (g : List Entry) : Type 0 where
  pub whole : List Entry
  pub run : IsRun d whole
  pub without : IsWithout whole g

-- ---- where a client sits

-- from the mark of an entry on, and behind each entry since, the client sits there, or nowhere
pub record SitsSince (d : Deployed) (h : List Entry) (c : ℕ) (sits : Option ℕ) (from : Spot) : Type 0 where
  pub later : List Entry
  pub start : Entry
  pub first : List Entry
  pub parts : h ≡ later ++ start ∷ first
  pub from_is : from ≡ spot_of d first start
  pub stays : (newer older : List Entry) → later ≡ newer ++ older → seat d (older ++ start ∷ first) c ≡ sits

-- from the beginning on, and behind each entry
pub record SitsFirst (d : Deployed) (h : List Entry) (c : ℕ) (sits : Option ℕ) (from : Spot) : Type 0 where
  pub from_is : first_spot d (client_at SEATED c) ≡ Some from
  pub stays : (newer older : List Entry) → h ≡ newer ++ older → seat d older c ≡ sits

-- one of the two
abbrev pub Sits : Deployed → List Entry → ℕ → Option ℕ → Spot → Type 0
Sits d h c sits from = SitsSince d h c sits from ⊎ SitsFirst d h c sits from

-- a line to the mark of an entry, from where on the client sat there, or nowhere, up to that entry
pub record IsPath (d : Deployed) (h : List Entry) (c : ℕ) (sits : Option ℕ) (from to : Spot) : Type 0 where
  pub later : List Entry
  pub entry : Entry
  pub before : List Entry
  pub parts : h ≡ later ++ entry ∷ before
  pub since : Sits d before c sits from
  pub to_is : to ≡ spot_of d before entry

-- a path that is drawn through goes along the column of the site at which its client sits all the while
pub record IsAtSeat (d : Deployed) (h : List Entry) (c : ℕ) (from to : Spot) : Type 0 where
  pub site : ℕ
  pub path : IsPath d h c (Some site) from to
  pub from_x : from.x ≡ column_x (site_column d site)
  pub to_x : to.x ≡ column_x (site_column d site)

-- one that goes on to the end does so too
pub record IsAtLastSeat (d : Deployed) (h : List Entry) (c : ℕ) (from to : Spot) : Type 0 where
  pub site : ℕ
  pub since : Sits d h c (Some site) from
  pub from_x : from.x ≡ column_x (site_column d site)
  pub to_is : to ≡ spot_at (column_x (site_column d site)) (row_y d (length h))

-- a client that has a seat at the end has such a line
abbrev pub HasLastSeat : Deployed → List Entry → ℕ → ℕ → Type 0
HasLastSeat d h c i =
    (from : Spot) × In (elements d h)
    (Rest ink.Seat (client_at SEATED c) from (spot_at (column_x (site_column d i)) (row_y d (length h))))

-- each path that is drawn through is at its client's seat, also to the end, and one that is dashed goes where its
-- client has none
pub record PathsAreAtSeats (d : Deployed) (h : List Entry) : Type 0 where
  pub solid : (c : ℕ) (from to : Spot) → In (elements d h) (Way ink.Seat (client_at SEATED c) from to)
      → IsAtSeat d h c from to
  pub dashed : (c : ℕ) (from to : Spot) → In (elements d h) (Way ink.Away (client_at AWAY c) from to)
      → IsPath d h c None from to
  pub to_end : (c : ℕ) (from to : Spot) → In (elements d h) (Rest ink.Seat (client_at SEATED c) from to)
      → IsAtLastSeat d h c from to
  pub each : (c i : ℕ) → c < length d.clients → seat d h c ≡ Some i → HasLastSeat d h c i
