-- The tables that the checker replicates.
use Rattle.std.specs.Prelude.{◌≡◌, ◌<◌, ◌-◌, ◌==◌, ◌&&◌, nat_lt, nat_le, max, map, set, ℕ, zero, suc, false, List, []}
use Rattle.std.specs.Prelude.{◌∷◌, length, reverse, take, get_or, Option, Some, None, if◌then◌else◌}
use Rattle.std.specs.Ordering.{nat_cmp, ordering_then}
use Rattle.std.specs.declared.cmp.Ordering.{Ordering}
use Rattle.sat_label.specs.declared.point.Point.{Point}
use Rattle.sat_label.specs.declared.site_set.SiteSet.{SiteSet}
use Rattle.sat_verdict.specs.declared.tale.Tale.{Tale}
use Rattle.sat_verdict.specs.declared.tale.Tale.TheVariants.{Wrote, Moved, ReadSome, Shown, Other}
use Rattle.sat_verdict.specs.Entries.{made_in, client_of}
use Rattle.sat_verdict.specs.Causes.{Client}
use Rattle.sat_verdict.specs.Counts.{known}
use Rattle.sat_verdict.specs.Goals.{no_sites}
use Rattle.sat_verdict.specs.Found.{made_number, lower, is_lacking}
use Rattle.sat_label.specs.Words.{bit}

-- a number from 1, or 0 for none
abbrev pub number_or : Option ℕ → ℕ
number_or None = 0
number_or (Some n) = n

-- how points compare, as a map compares them
abbrev pub point_cmp : Point → Point → Ordering
point_cmp p q = ordering_then (nat_cmp p.ts q.ts) (ordering_then (nat_cmp p.site q.site) (nat_cmp p.gear q.gear))

-- the number of the maker of an entry's point
abbrev pub number_in : List Tale → Tale → ℕ
number_in whole (Wrote c xs b) = number_or (made_number whole b)
number_in whole (Moved c b) = number_or (made_number whole b)
number_in whole (ReadSome c x p) = number_or (made_number whole p)
number_in whole (Shown k p) = number_or (made_number whole p)
number_in whole _ = 0

-- the first entries, the newest first
abbrev pub told : List Tale → ℕ → List Tale
told tales n = reverse (take n tales)

-- a new entry makes no point that was made before
unfoldable pub IsUnique : List Tale → Type 0
IsUnique [] = Unit {0}
IsUnique (e ∷ h) = IsUnique h × ((b : Point) → made_in e ≡ Some b → made_number h b ≡ None)

-- each entry's client is below a number
abbrev pub HasClients : ℕ → List Tale → Type 0
HasClients clients tales = (j c : ℕ) → j < length tales → client_of (get_or tales j Other) ≡ Some c → c < clients

-- what a table holds for a number from 1 that is at most a place
abbrev pub value_at : ℕ → ℕ → List ℕ → ℕ
value_at number place counts = if nat_lt 0 number && nat_le number place then get_or counts (number - 1) 0 else 0

-- the value, if the entry reads a version
abbrev pub read_of : Tale → ℕ → ℕ
read_of (ReadSome c x p) v = v
read_of _ v = 0

-- a table has what each other client knows of client d
abbrev pub KnowsNow : List Tale → ℕ → List ℕ → Type 0
KnowsNow h d now = (c : ℕ) → c < length now → (d == c) ≡ false → get_or now c 0 ≡ known h (Client c) d

-- a table has what the clients of the first n entries knew of client d before them
abbrev pub IsColumnTo : List Tale → ℕ → List ℕ → ℕ → Type 0
IsColumnTo tales d counts n = (j c : ℕ) → j < n → client_of (get_or tales j Other) ≡ Some c
    → get_or counts j 0 ≡ known (told tales j) (Client c) d

-- in rows of counts by client, the counts of client d
abbrev pub column : List (List ℕ) → ℕ → List ℕ
column rows d = map (λ row. get_or row d 0) rows

-- a row for each entry: of each client, what the entry's client knew before it
abbrev pub AreRows : List Tale → ℕ → List (List ℕ) → Type 0
AreRows tales clients rows =
    (length rows ≡ length tales) × ((d : ℕ) → d < clients → IsColumnTo tales d (column rows d) (length tales))

-- so many zeros
abbrev pub IsBlank : ℕ → List ℕ → Type 0
IsBlank n row = (length row ≡ n) × ((k : ℕ) → k < n → get_or row k 0 ≡ 0)

-- the first n rows are blank ones, one for each client
abbrev pub AreBlankTo : ℕ → ℕ → List (List ℕ) → Type 0
AreBlankTo clients n now = (length now ≡ n) × ((c : ℕ) → c < n → IsBlank clients (get_or now c []))

-- the row of an entry at a place: of its client all entries before it, of the others what is kept for that client
abbrev pub row_before : List (List ℕ) → ℕ → Option ℕ → List ℕ
row_before now place None = []
row_before now place (Some c) = set (get_or now c []) c place

-- the rows of all clients but one stay, and each has as many counts as before
abbrev pub AreKept : (ℕ → Type 0) → List (List ℕ) → List (List ℕ) → Type 0
AreKept Changed old new =
    (length new ≡ length old) × ((c : ℕ) → length (get_or new c []) ≡ length (get_or old c [])) ×
    ((c : ℕ) → (Changed c → ⊥) → get_or new c [] ≡ get_or old c [])

-- the row of a client is raised by so much of each client
abbrev pub IsRaisedBy : (ℕ → ℕ) → ℕ → List (List ℕ) → List (List ℕ) → Type 0
IsRaisedBy value c old new =
    (d : ℕ) → c < length old → d < length (get_or old c [])
    → get_or (get_or new c []) d 0 ≡ max (get_or (get_or old c []) d 0) (value d)

-- a client's row is raised to that of the entry with this number, if that is one of the first so many
abbrev pub Raises : ℕ → ℕ → ℕ → List (List ℕ) → List (List ℕ) → List (List ℕ) → Type 0
Raises client number place rows old new =
    AreKept (λ c. client ≡ c) old new × IsRaisedBy (λ d. value_at number place (column rows d)) client old new

-- the row of an entry's client is raised by what the entry reads
abbrev pub Learns : Tale → ℕ → ℕ → List (List ℕ) → List (List ℕ) → List (List ℕ) → Type 0
Learns e number place rows old new =
    AreKept (λ c. client_of e ≡ Some c) old new ×
    ((c : ℕ) → client_of e ≡ Some c → IsRaisedBy (λ d. read_of e (value_at number place (column rows d))) c old new)

-- a number from 1, or none for 0
abbrev pub option_of : ℕ → Option ℕ
option_of n = if n == 0 then None else Some n

-- what one entry tells of what site k lacks when it shows the point that entry `made` (from 0) made
abbrev pub table_lack_by : List (List ℕ) → List SiteSet → ℕ → ℕ → ℕ → ℕ → ℕ → Option ℕ
table_lack_by rows unshown made k place number c =
    if nat_lt place (get_or (get_or rows made []) c 0) && bit (get_or unshown (number - 1) no_sites).bits k
    then option_of number else None

abbrev pub table_lack : List (List ℕ) → List SiteSet → ℕ → ℕ → ℕ → ℕ → Tale → Option ℕ
table_lack rows unshown made k place number (Wrote c xs b) = table_lack_by rows unshown made k place number c
table_lack rows unshown made k place number (ReadSome c x p) = table_lack_by rows unshown made k place number c
table_lack rows unshown made k place number _ = None

-- the least of the first n
unfoldable pub scan : (ℕ → Option ℕ) → ℕ → Option ℕ
scan f zero = None
scan f (suc n) = lower (scan f n) (f n)

abbrev pub table_lacks : List (List ℕ) → List SiteSet → List ℕ → List Tale → ℕ → ℕ → ℕ → Option ℕ
table_lacks rows unshown numbers tales made k j =
    table_lack rows unshown made k j (get_or numbers j 0) (get_or tales j Other)

-- a table has, for each point that was made, the sites that keep it and didn't show it
abbrev pub AreUnshown : List SiteSet → List Tale → List Tale → List SiteSet → Type 0
AreUnshown sets whole before unshown = (p : Point) (n k : ℕ) → made_number whole p ≡ Some n
    → bit (get_or unshown (n - 1) no_sites).bits k ≡ is_lacking sets whole before k p
