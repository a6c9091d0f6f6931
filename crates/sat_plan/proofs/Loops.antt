-- What the loops keep.
use Rattle.std.specs.Prelude.{ℕ, ◌≡◌, ◌<◌, ◌≤◌, ◌-◌, ◌⊎◌, List, length}
use Rattle.std.specs.List.{slice_index_or}
use Rattle.sat_delay.specs.Table.{DelayTable}
use Rattle.sat_plan.specs.declared.routes.Routes.{Routes}
use Rattle.sat_plan.specs.declared.terms.Term.{Term}
use Rattle.sat_plan.specs.declared.terms.Choice.{Choice}
use Rattle.sat_plan.specs.Config.{Config, Fits}
use Rattle.sat_plan.specs.Mismatch.{mismatch}
use Rattle.sat_plan.specs.Steps.{grow, grown, tuned_below, settled}
use Rattle.sat_plan.specs.Routes.{IsRoutes}
use Rattle.sat_plan.specs.Drafts.{terms_cost, turn_of}

-- a tree with its mismatch, from which the steps go on to the one that is grown
pub record IsGrowing (d : DelayTable) (c : Config) (cost : ℕ) : Type 0 where
  pub fits : Fits d c
  pub costs : cost ≡ mismatch d c
  pub some : 0 < length c.tree.parents
  pub few : length c.tree.parents ≤ 15
  pub grows : grow d (15 - length c.tree.parents) c ≡ grown d

-- a choice that is no worse than a delay, and no greater where it is as good
abbrev pub NoWorse : List Term → Choice → ℕ → Type 0
NoWorse terms best delay = (best.cost < terms_cost terms delay) ⊎ ((best.cost ≤ terms_cost terms delay) × (best.delay ≤ delay))

-- the best of 0 and of the first so many turns
pub record IsBestOf (terms : List Term) (n : ℕ) (best : Choice) : Type 0 where
  pub costs : best.cost ≡ terms_cost terms best.delay
  pub few : best.delay ≤ 100000
  pub none : NoWorse terms best 0
  pub turns : (k : ℕ) (t : Term) → k < n → NoWorse terms best (turn_of (slice_index_or terms k t))

-- a tree in the midst of a pass
pub record IsPassing (d : DelayTable) (old : Config) (c : Config) (r : Routes) (e : ℕ) : Type 0 where
  pub fits : Fits d c
  pub tree : c.tree ≡ old.tree
  pub places : c.places ≡ old.places
  pub routes : IsRoutes d c.tree c.places r
  pub passed : c ≡ tuned_below d old e

-- a tree with its mismatch between two passes
pub record IsSettling (d : DelayTable) (old : Config) (c : Config) (r : Routes) (cost : ℕ) : Type 0 where
  pub fits : Fits d c
  pub routes : IsRoutes d c.tree c.places r
  pub costs : cost ≡ mismatch d c
  pub settles : settled d (mismatch d c) c ≡ settled d (mismatch d old) old
