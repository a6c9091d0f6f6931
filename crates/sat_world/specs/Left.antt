-- What a world keeps of what is under way: payloads that were not taken, and labels that stand on links.
use Rattle.std.specs.Prelude.{ℕ, ◌≡◌, ◌==◌, Bool, not, count_by, List, length, Option, Some, None, slice_get}
use Rattle.std.specs.List.{sum_by}
use Rattle.sat_label.specs.Words.{below, has}
use Rattle.sat_act.specs.Deployed.{Deployed}
use Rattle.sat_act.specs.Settling.{capped}
use Rattle.sat_bulk.specs.Windows.{has_number}
use Rattle.sat_model.specs.State.{SiteState}
use Rattle.sat_net.specs.Nets.{NetSeen, underway_in}
use Rattle.sat_proxy.specs.Proxy.{window_of}
use Rattle.sat_site.specs.Seen.{SiteSeen}
use Rattle.sat_site.specs.Stands.{StandsSite}

-- a site among so many, with so many gears
pub record IsOfShape (x : SiteSeen) (n g : ℕ) : Type 0 where
  pub sites : x.shape.sites ≡ n
  pub gears : x.shape.gears ≡ g

-- whether a number of the lane of gear g of site i was not taken here
abbrev pub is_missing : SiteSeen → ℕ → ℕ → ℕ → Bool
is_missing y i g k = not (has_number (window_of y.proxy i g) k)

-- how many payloads of the lane of gear g of site i, whose state is s, were not taken at site j, whose state is t
abbrev pub lane_left : SiteState → SiteState → ℕ → ℕ → ℕ → ℕ
lane_left s t i g j = count_by (λ k. not (has ◌==◌ (t.proxy.taken i g) k)) (below (length ((s.gears g).lanes j)))

-- the same of the lanes of the first n gears, stopped at 2^64 - 1, in all states that the two sites stand for
abbrev pub IsLeftOf : SiteSeen → SiteSeen → ℕ → ℕ → ℕ → ℕ → Type 0
IsLeftOf x y i j n count =
    (d : Deployed) (s t : SiteState) → StandsSite d i x s → StandsSite d j y t
    → count ≡ capped (sum_by (λ g. lane_left s t i g j) (below n))

-- the states for which sites stand
abbrev pub AllStand : List SiteSeen → Deployed → (ℕ → SiteState) → Type 0
AllStand xs d S = (i : ℕ) (x : SiteSeen) → slice_get xs i ≡ Some x → StandsSite d i x (S i)

-- the same of the lanes of the first m sites to site j
abbrev pub IsLeftTo : List SiteSeen → ℕ → ℕ → ℕ → ℕ → Type 0
IsLeftTo xs gears j m count =
    (d : Deployed) (S : ℕ → SiteState) → AllStand xs d S
    → count ≡ capped (sum_by (λ i. sum_by (λ g. lane_left (S i) (S j) i g j) (below gears)) (below m))

-- the same of the lanes to the first m sites
abbrev pub IsLeft : List SiteSeen → ℕ → ℕ → ℕ → Type 0
IsLeft xs gears m count =
    (d : Deployed) (S : ℕ → SiteState) → AllStand xs d S →
    count
    ≡ capped (sum_by (λ j. sum_by (λ i. sum_by (λ g. lane_left (S i) (S j) i g j) (below gears)) (below (length xs)))
    (below m))

-- how many labels stand on the links of an epoch's net, if it has one
abbrev pub net_underway : Option NetSeen → ℕ
net_underway None = 0
net_underway (Some n) = underway_in n
