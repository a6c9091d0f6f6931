-- The verdict on a given history: a yes for each law that holds, and else the least entries that offend.
use Rattle.std.specs.Prelude.{◌≡◌, ◌≤◌, ℕ, suc, List, length, Option, Some, None}
use Rattle.sat_label.specs.declared.point.Point.{Point}
use Rattle.sat_label.specs.declared.site_set.SiteSet.{SiteSet}
use Rattle.sat_verdict.specs.declared.tale.Tale.{Tale}
use Rattle.sat_verdict.specs.Goals.{ShowsNow, Lacks, Misses, ShowsNew, CausalTo, Causal, OnceTo, Once, FreshTo, Fresh}
use Rattle.sat_verdict.specs.Goals.{Stands, MadeAt}

-- entry n shows a point at site k that lacks a cause there, the one that entry m made and no lower entry; no entry
-- before n does so
pub record IsFirstLack (sets : List SiteSet) (h : List Tale) (n m k : ℕ) : Type 0 where
  pub entry : Tale
  pub before : List Tale
  pub stands : Stands h entry before
  pub number : n ≡ suc (length before)
  pub first : CausalTo sets h before
  pub shown : Point
  pub shows : ShowsNow entry k shown
  pub missing : Point
  pub lacks : Lacks sets h before k shown missing
  pub made : MadeAt h missing m
  pub least : (a : Point) (o : ℕ) → Lacks sets h before k shown a → MadeAt h a o → m ≤ o

-- entry n shows again, or shows what is no update of an item of its site; no entry before n does so
pub record IsFirstAgain (sets : List SiteSet) (h : List Tale) (n : ℕ) : Type 0 where
  pub entry : Tale
  pub before : List Tale
  pub stands : Stands h entry before
  pub number : n ≡ suc (length before)
  pub first : OnceTo sets h before
  pub again : ShowsNew sets h before entry → ⊥

-- entry n is a read that missed an update of its past, the one that entry m made and no lower entry; no entry before n
-- does so
pub record IsFirstMiss (h : List Tale) (n m : ℕ) : Type 0 where
  pub entry : Tale
  pub before : List Tale
  pub stands : Stands h entry before
  pub number : n ≡ suc (length before)
  pub first : FreshTo h before
  pub missed : Point
  pub misses : Misses h before entry missed
  pub made : MadeAt h missed m
  pub least : (a : Point) (o : ℕ) → Misses h before entry a → MadeAt h a o → m ≤ o

-- none: the history is causal; else the first entry that shows an update before a cause, the cause and the site
abbrev pub IsCausalVerdict : List SiteSet → List Tale → Option (ℕ × ℕ × ℕ) → Type 0
IsCausalVerdict sets h None = Causal sets h
IsCausalVerdict sets h (Some v) = IsFirstLack sets h v.0 v.1 v.2

-- none: each update is shown once where it belongs; else the first entry that shows one again or where it does not
-- belong
abbrev pub IsOnceVerdict : List SiteSet → List Tale → Option ℕ → Type 0
IsOnceVerdict sets h None = Once sets h
IsOnceVerdict sets h (Some n) = IsFirstAgain sets h n

-- none: no read is older than what its client saw; else the first such read and what it missed
abbrev pub IsFreshVerdict : List Tale → Option (ℕ × ℕ) → Type 0
IsFreshVerdict h None = Fresh h
IsFreshVerdict h (Some v) = IsFirstMiss h v.0 v.1
