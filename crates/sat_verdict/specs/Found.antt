-- How a verdict is found: by tests and one count a client.
use Rattle.std.specs.Prelude.{ℕ, suc, Bool, false, not, ◌&&◌, ◌||◌, ◌==◌, nat_lt, nat_le, List, [], ◌∷◌, length, Option}
use Rattle.std.specs.Prelude.{Some, None, if◌then◌else◌}
use Rattle.sat_label.specs.declared.point.Point.{Point}
use Rattle.sat_label.specs.declared.site_set.SiteSet.{SiteSet}
use Rattle.sat_label.specs.Grouped.{list_of}
use Rattle.sat_verdict.specs.declared.tale.Tale.{Tale}
use Rattle.sat_verdict.specs.declared.tale.Tale.TheVariants.{Wrote, ReadNone, ReadSome, Shown}
use Rattle.sat_label.specs.Order.{point_lt, point_eq}
use Rattle.sat_label.specs.Words.{has}
use Rattle.sat_verdict.specs.Entries.{makes}
use Rattle.sat_verdict.specs.Causes.{Client, Maker}
use Rattle.sat_verdict.specs.Counts.{known}
use Rattle.sat_verdict.specs.Goals.{replicates}

-- whether site k replicates one of some items
abbrev pub any_kept : List SiteSet → ℕ → List ℕ → Bool
any_kept sets k [] = false
any_kept sets k (x ∷ xs) = replicates sets x k || any_kept sets k xs

abbrev pub kept_now : List SiteSet → ℕ → Point → Tale → Bool
kept_now sets k a (Wrote c xs b) = point_eq b a && any_kept sets k (list_of xs)
kept_now sets k a _ = false

-- whether the point is an update that has an item which site k replicates
unfoldable pub is_kept : List SiteSet → List Tale → ℕ → Point → Bool
is_kept sets [] k a = false
is_kept sets (e ∷ h) k a = is_kept sets h k a || kept_now sets k a e

abbrev pub shown_now : Tale → ℕ → Point → Bool
shown_now (Wrote c xs b) k a = (b.site == k) && point_eq b a
shown_now (Shown j p) k a = (j == k) && point_eq p a
shown_now _ k a = false

-- whether site k showed the point
unfoldable pub has_shown : List Tale → ℕ → Point → Bool
has_shown [] k a = false
has_shown (e ∷ h) k a = has_shown h k a || shown_now e k a

abbrev pub item_now : Point → ℕ → Tale → Bool
item_now a x (Wrote c xs b) = point_eq b a && has ◌==◌ (list_of xs) x
item_now a x _ = false

-- whether the point is an update that has the item
unfoldable pub has_item : List Tale → Point → ℕ → Bool
has_item [] a x = false
has_item (e ∷ h) a x = has_item h a x || item_now a x e

-- the number, from 1, of the first entry that made the point
unfoldable pub made_number : List Tale → Point → Option ℕ
made_number [] a = None
made_number (e ∷ h) a =
    elim (made_number h a) [ Some n ↦ Some n | None ↦ if makes e a then Some (suc (length h)) else None ]

-- the lower of two numbers, of which each may be missing
abbrev pub lower : Option ℕ → Option ℕ → Option ℕ
lower None o = o
lower (Some m) None = Some m
lower (Some m) (Some n) = if nat_le m n then Some m else Some n

-- the maker's number of what an entry wrote or read, if it lies below its client's count and passes the test
abbrev pub within_now : (Point → Bool) → (Point → Option ℕ) → (ℕ → ℕ) → ℕ → Tale → Option ℕ
within_now test maker count n (Wrote c xs b) = if nat_lt n (count c) && test b then maker b else None
within_now test maker count n (ReadSome c x p) = if nat_lt n (count c) && test p then maker p else None
within_now test maker count n _ = None

-- the least maker's number of a point that some entry below its client's count wrote or read, and that passes the test
unfoldable pub least_within : (Point → Bool) → (Point → Option ℕ) → (ℕ → ℕ) → List Tale → Option ℕ
least_within test maker count [] = None
least_within test maker count (e ∷ h) =
    lower (least_within test maker count h) (within_now test maker count (length h) e)

-- whether site k replicates the point and didn't show it yet
abbrev pub is_lacking : List SiteSet → List Tale → List Tale → ℕ → Point → Bool
is_lacking sets whole before k a = is_kept sets whole k a && not (has_shown before k a)

-- the least number of a maker of a cause of b that site k lacks
abbrev pub lack_at : List SiteSet → List Tale → List Tale → ℕ → Point → Option ℕ
lack_at sets whole before k b =
    least_within (is_lacking sets whole before k) (made_number whole) (known whole (Maker b)) whole

abbrev pub lack_by : ℕ → ℕ → Option ℕ → Option (ℕ × ℕ × ℕ)
lack_by n k None = None
lack_by n k (Some m) = Some (n, m, k)

abbrev pub lack_now : List SiteSet → List Tale → List Tale → Tale → Option (ℕ × ℕ × ℕ)
lack_now sets whole before (Wrote c xs b) = lack_by (suc (length before)) b.site (lack_at sets whole before b.site b)
lack_now sets whole before (Shown k b) = lack_by (suc (length before)) k (lack_at sets whole before k b)
lack_now sets whole before _ = None

-- what was found first, or else what is found now
abbrev pub first : {X : Type 0} → Option X → Option X → Option X
first None o = o
first (Some x) o = Some x

-- the first entry that lacks a cause
unfoldable pub first_lack : List SiteSet → List Tale → List Tale → Option (ℕ × ℕ × ℕ)
first_lack sets whole [] = None
first_lack sets whole (e ∷ before) = first (first_lack sets whole before) (lack_now sets whole before e)

abbrev pub again_at : List SiteSet → List Tale → List Tale → ℕ → Point → Option ℕ
again_at sets whole before k b =
    if has_shown before k b || not (is_kept sets whole k b) then Some (suc (length before)) else None

abbrev pub again_now : List SiteSet → List Tale → List Tale → Tale → Option ℕ
again_now sets whole before (Wrote c xs b) = again_at sets whole before b.site b
again_now sets whole before (Shown k b) = again_at sets whole before k b
again_now sets whole before _ = None

-- the first entry that shows again, or shows what is no update of an item of its site
unfoldable pub first_again : List SiteSet → List Tale → List Tale → Option ℕ
first_again sets whole [] = None
first_again sets whole (e ∷ before) = first (first_again sets whole before) (again_now sets whole before e)

-- whether the point is an update of the item above what was read
abbrev pub is_missed : List Tale → ℕ → Point → Point → Bool
is_missed whole x p a = has_item whole a x && point_lt p a

abbrev pub miss_by : ℕ → Option ℕ → Option (ℕ × ℕ)
miss_by n None = None
miss_by n (Some m) = Some (n, m)

abbrev pub miss_now : List Tale → List Tale → Tale → Option (ℕ × ℕ)
miss_now whole before (ReadSome c x p) =
    miss_by (suc (length before))
    (least_within (is_missed whole x p) (made_number whole) (known before (Client c)) before)
miss_now whole before (ReadNone c x) =
    miss_by (suc (length before))
    (least_within (λ a. has_item whole a x) (made_number whole) (known before (Client c)) before)
miss_now whole before _ = None

-- the first read that missed an update of its past
unfoldable pub first_miss : List Tale → List Tale → Option (ℕ × ℕ)
first_miss whole [] = None
first_miss whole (e ∷ before) = first (first_miss whole before) (miss_now whole before e)
