-- The greatest promise of all, and the act clock at each site.
use Rattle.std.specs.Prelude.{◌≡◌, ℕ, zero, suc, max, List, length, Some, slice_get}
use Rattle.sat_act.specs.Deployed.{Deployed}
use Rattle.sat_model.specs.State.{SiteState}
use Rattle.sat_site.specs.Seen.{SiteSeen, IsSite}
use Rattle.sat_site.specs.Stands.{StandsSite}
use Rattle.sat_site.specs.Gives.{PromisesUpTo}
use Rattle.sat_site.specs.Changes.{clocked}

-- the greatest of the first n
unfoldable pub greatest_of : (ℕ → ℕ) → ℕ → ℕ
greatest_of f zero = 0
greatest_of f (suc n) = max (greatest_of f n) (f n)

-- the greatest promise of the first n gears, in each state that the site stands for
abbrev pub IsTop : SiteSeen → ℕ → ℕ → Type 0
IsTop x n ts =
    (d : Deployed) (i : ℕ) (s : SiteState) → StandsSite d i x s → ts ≡ greatest_of (λ g. (s.gears g).promise) n

-- the greatest promise of the first n gears of the first m sites
abbrev pub IsGreatestOf : List SiteSeen → ℕ → ℕ → ℕ → Type 0
IsGreatestOf xs m n ts =
    (d : Deployed) (S : ℕ → SiteState) → ((i : ℕ) (x : SiteSeen) → slice_get xs i ≡ Some x → StandsSite d i x (S i))
    → ts ≡ greatest_of (λ i. greatest_of (λ g. ((S i).gears g).promise) n) m

-- the greatest promise of the first n gears of all sites
abbrev pub IsGreatest : List SiteSeen → ℕ → ℕ → Type 0
IsGreatest xs n ts = IsGreatestOf xs (length xs) n ts

-- no promise of the sites is above
abbrev pub AreUpTo : List SiteSeen → ℕ → Type 0
AreUpTo xs ts = (i : ℕ) (x : SiteSeen) → slice_get xs i ≡ Some x → PromisesUpTo x ts

-- a site that was handed the clock
pub record IsClocked (ts : ℕ) (x y : SiteSeen) : Type 0 where
  pub sound : IsSite x
  pub after : y ≡ clocked x ts

-- each site was handed the clock
pub record AreClocked (ts : ℕ) (xs ys : List SiteSeen) : Type 0 where
  pub count : length ys ≡ length xs
  pub each : (i : ℕ) (x y : SiteSeen) → slice_get xs i ≡ Some x → slice_get ys i ≡ Some y → IsClocked ts x y
