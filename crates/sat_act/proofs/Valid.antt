-- What the proofs on histories ask of a deployment.
use Rattle.std.proofs.Common.{ℕ, ◌≡◌, ◌<◌, Option, Some, None, slice_get, refl}
use Rattle.sat_act.specs.declared.deployment.ClientLine.{ClientLine}
use Rattle.sat_act.specs.Deployed.{Deployed}
use Rattle.sat_act.specs.Parts.{home}
use Rattle.sat_act.specs.Goals.{IsValid}
use Rattle.sat_act.specs.Headline.{HasTrees}
use Rattle.sat_act.specs.Limits.{IsDeployment}

pub is_valid : (d : Deployed) → IsDeployment d → IsValid d
unfolding home
is_valid d is = record {
  some_gear = is.some_gear;
  few_gears = is.few_gears;
  homes = λ c i at. go c i (slice_get d.clients c) refl at;
}
  where
    go : (c i : ℕ) (o : Option ClientLine) → slice_get d.clients c ≡ o → home d c ≡ Some i → i < d.sites
    go c i (Some line) at e = let f : home d c ≡ Some line.site = rw (at, home) refl in let same : line.site ≡ i = cc in let h = is.homes c line at in rw (← same) h
    go c i None at e = absurd (let f : home d c ≡ None = rw (at, home) refl in cc)

pub has_trees : (d : Deployed) → IsDeployment d → HasTrees d
has_trees d is = is.trees
