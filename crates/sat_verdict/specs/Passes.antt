-- What one pass over the entries computes from the tables.
use Rattle.std.specs.Prelude.{◌≡◌, ◌<◌, ◌-◌, ◌+◌, ◌==◌, ◌&&◌, ◌||◌, not, nat_lt, ℕ, Bool, true, false, List, [], length}
use Rattle.std.specs.Prelude.{get_or, Option, Some, None, if◌then◌else◌}
use Rattle.sat_label.specs.declared.point.Point.{Point}
use Rattle.sat_label.specs.declared.site_set.SiteSet.{SiteSet}
use Rattle.sat_label.specs.Grouped.{list_of}
use Rattle.sat_verdict.specs.declared.tale.Tale.{Tale}
use Rattle.sat_verdict.specs.declared.tale.Tale.TheVariants.{Wrote, ReadNone, ReadSome, Shown, Other}
use Rattle.sat_label.specs.Words.{bit, has}
use Rattle.sat_label.specs.Order.{point_lt}
use Rattle.sat_verdict.specs.Goals.{no_sites}
use Rattle.sat_verdict.specs.Found.{any_kept, lack_by, miss_by}
use Rattle.sat_verdict.specs.Tables.{option_of, scan, table_lacks}

-- whether site k replicates an item of what an entry wrote
abbrev pub kept_of : List SiteSet → ℕ → Tale → Bool
kept_of sets k (Wrote c xs b) = any_kept sets k (list_of xs)
kept_of sets k _ = false

-- the site at which an entry shows a point
abbrev pub site_of : Tale → Option ℕ
site_of (Wrote c xs b) = Some b.site
site_of (Shown k p) = Some k
site_of _ = None

-- each entry that shows does so at a site below 64
abbrev pub HasSites : List Tale → Type 0
HasSites tales = (j k : ℕ) → j < length tales → site_of (get_or tales j Other) ≡ Some k → k < 64

-- a table has the sites that keep what the first n entries wrote
abbrev pub AreKeptTo : List SiteSet → List Tale → List SiteSet → ℕ → Type 0
AreKeptTo sets tales kept n =
    (j k : ℕ) → j < n → bit (get_or kept j no_sites).bits k ≡ kept_of sets k (get_or tales j Other)

abbrev pub table_causal : List Tale → List ℕ → List (List ℕ) → List SiteSet → ℕ → ℕ → Option ℕ → Option (ℕ × ℕ × ℕ)
table_causal tales numbers rows unshown place number None = None
table_causal tales numbers rows unshown place number (Some k) =
    if number == 0 then None
    else lack_by (place + 1) k (scan (table_lacks rows unshown numbers tales (number - 1) k) (length tales))

abbrev pub table_once : List SiteSet → ℕ → ℕ → Option ℕ → Option ℕ
table_once unshown place number None = None
table_once unshown place number (Some k) =
    if number == 0 || not (bit (get_or unshown (number - 1) no_sites).bits k) then Some (place + 1) else None

-- whether an entry wrote the item
abbrev pub item_of : ℕ → Tale → Bool
item_of x (Wrote c xs b) = has ◌==◌ (list_of xs) x
item_of x _ = false

-- whether a point is above what was read, if anything was
abbrev pub passes : Option Point → Point → Bool
passes None a = true
passes (Some p) a = point_lt p a

-- what one entry tells of what the read at a place missed
abbrev pub table_miss_by : List Tale → List (List ℕ) → ℕ → ℕ → Option Point → ℕ → ℕ → ℕ → Point → Option ℕ
table_miss_by tales rows place x read j number c a =
    if nat_lt j (get_or (get_or rows place []) c 0) && (item_of x (get_or tales (number - 1) Other) && passes read a)
    then option_of number else None

abbrev pub table_miss : List Tale → List (List ℕ) → ℕ → ℕ → Option Point → ℕ → ℕ → Tale → Option ℕ
table_miss tales rows place x read j number (Wrote c xs b) = table_miss_by tales rows place x read j number c b
table_miss tales rows place x read j number (ReadSome c y p) = table_miss_by tales rows place x read j number c p
table_miss tales rows place x read j number _ = None

abbrev pub table_misses : List Tale → List ℕ → List (List ℕ) → ℕ → ℕ → Option Point → ℕ → Option ℕ
table_misses tales numbers rows place x read j =
    table_miss tales rows place x read j (get_or numbers j 0) (get_or tales j Other)

abbrev pub table_fresh : List Tale → List ℕ → List (List ℕ) → ℕ → Tale → Option (ℕ × ℕ)
table_fresh tales numbers rows place (ReadSome c x p) =
    miss_by (place + 1) (scan (table_misses tales numbers rows place x (Some p)) place)
table_fresh tales numbers rows place (ReadNone c x) =
    miss_by (place + 1) (scan (table_misses tales numbers rows place x None) place)
table_fresh tales numbers rows place _ = None
