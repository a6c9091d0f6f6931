-- What is asked of a given history, law by law.
use Rattle.std.specs.Prelude.{◌≡◌, ◌⊎◌, ℕ, suc, Bool, true, List, [], ◌∷◌, length, Some, get_or}
use Rattle.sat_label.specs.declared.point.Point.{Point}
use Rattle.sat_label.specs.declared.site_set.SiteSet.{SiteSet}
use Rattle.sat_label.specs.Grouped.{list_of}
use Rattle.sat_verdict.specs.declared.tale.Tale.{Tale}
use Rattle.sat_verdict.specs.declared.tale.Tale.TheVariants.{Wrote, ReadNone, ReadSome, Shown}
use Rattle.sat_label.specs.Order.{point_lt}
use Rattle.sat_label.specs.Members.{In}
use Rattle.sat_label.specs.Words.{bit}
use Rattle.sat_verdict.specs.Entries.{made_in}
use Rattle.sat_verdict.specs.Causes.{Past, Cause}

-- an entry shows this point at site k: what a write told at the point's site, and what a site told
abbrev pub ShowsNow : Tale → ℕ → Point → Type 0
ShowsNow (Wrote c xs b) k a = (b.site ≡ k) × (b ≡ a)
ShowsNow (Shown j p) k a = (j ≡ k) × (p ≡ a)
ShowsNow _ k a = ⊥

-- site k showed the point
unfoldable pub Shows : List Tale → ℕ → Point → Type 0
Shows [] k a = ⊥
Shows (e ∷ before) k a = Shows before k a ⊎ ShowsNow e k a

-- an entry tells that the point is an update that has item x
abbrev pub WritesNow : Tale → Point → ℕ → Type 0
WritesNow (Wrote c xs b) a x = (b ≡ a) × In (list_of xs) x
WritesNow _ a x = ⊥

-- the point is an update that has item x
unfoldable pub HasItem : List Tale → Point → ℕ → Type 0
HasItem [] a x = ⊥
HasItem (e ∷ before) a x = HasItem before a x ⊎ WritesNow e a x

abbrev pub no_sites : SiteSet
no_sites = record { bits = 0 }

-- site k replicates item x: the sets of sites stand by the items' numbers
abbrev pub replicates : List SiteSet → ℕ → ℕ → Bool
replicates sets x k = bit (get_or sets x no_sites).bits k

-- the point is an update that has an item which site k replicates
abbrev pub IsKept : List SiteSet → List Tale → ℕ → Point → Type 0
IsKept sets h k a = (x : ℕ) × HasItem h a x × (replicates sets x k ≡ true)

-- a is a cause of b, site k replicates it, and k didn't show it before
pub record Lacks (sets : List SiteSet) (whole before : List Tale) (k : ℕ) (b a : Point) : Type 0 where
  pub cause : Cause whole b a
  pub kept : IsKept sets whole k a
  pub unshown : Shows before k a → ⊥

-- whatever an entry shows at a site lacks no cause there. Items and causes are those of the whole history
abbrev pub ShowsCausesFirst : List SiteSet → List Tale → List Tale → Tale → Type 0
ShowsCausesFirst sets whole before e = (k : ℕ) (b a : Point) → ShowsNow e k b → Lacks sets whole before k b a → ⊥

-- as far as these entries of the whole history go
unfoldable pub CausalTo : List SiteSet → List Tale → List Tale → Type 0
CausalTo sets whole [] = Unit {0}
CausalTo sets whole (e ∷ before) = CausalTo sets whole before × ShowsCausesFirst sets whole before e

-- each point was shown at each site after each cause that the site replicates
abbrev pub Causal : List SiteSet → List Tale → Type 0
Causal sets h = CausalTo sets h h

-- whatever an entry shows at a site was not shown there before, and is an update of an item that the site replicates
abbrev pub ShowsNew : List SiteSet → List Tale → List Tale → Tale → Type 0
ShowsNew sets whole before e = (k : ℕ) (b : Point) → ShowsNow e k b → (Shows before k b → ⊥) × IsKept sets whole k b

unfoldable pub OnceTo : List SiteSet → List Tale → List Tale → Type 0
OnceTo sets whole [] = Unit {0}
OnceTo sets whole (e ∷ before) = OnceTo sets whole before × ShowsNew sets whole before e

-- no site shows a point twice, and each is an update of an item that the site replicates
abbrev pub Once : List SiteSet → List Tale → Type 0
Once sets h = OnceTo sets h h

-- an entry is a read of item x by client c, of a version or of none, and the point passes what was read
abbrev pub IsPassed : Tale → ℕ → ℕ → Point → Type 0
IsPassed (ReadSome b y p) c x a = (b ≡ c) × (y ≡ x) × (point_lt p a ≡ true)
IsPassed (ReadNone b y) c x a = (b ≡ c) × (y ≡ x)
IsPassed _ c x a = ⊥

-- a read missed an update of its item that was in its client's past
pub record Misses (whole before : List Tale) (e : Tale) (a : Point) : Type 0 where
  pub client : ℕ
  pub item : ℕ
  pub passed : IsPassed e client item a
  pub past : Past before client a
  pub update : HasItem whole a item

unfoldable pub FreshTo : List Tale → List Tale → Type 0
FreshTo whole [] = Unit {0}
FreshTo whole (e ∷ before) = FreshTo whole before × ((a : Point) → Misses whole before e a → ⊥)

-- no read missed an update
abbrev pub Fresh : List Tale → Type 0
Fresh h = FreshTo h h

-- the entry, with those before it, stands in the history
unfoldable pub Stands : List Tale → Tale → List Tale → Type 0
Stands [] e before = ⊥
Stands (x ∷ h) e before = Stands h e before ⊎ ((x ≡ e) × (h ≡ before))

-- the entry with number n, from 1, made the point
unfoldable pub MadeAt : List Tale → Point → ℕ → Type 0
MadeAt [] a n = ⊥
MadeAt (e ∷ h) a n = MadeAt h a n ⊎ ((made_in e ≡ Some a) × (n ≡ suc (length h)))
