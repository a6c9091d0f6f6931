-- What holds of the inputs that fit a site.
use Rattle.std.specs.Prelude.{◌≡◌, ℕ, true}
use Rattle.sat_act.specs.Deployed.{Deployed}
use Rattle.sat_act.specs.Limits.{IsDeployment}
use Rattle.sat_bodies.specs.Bodies.{input_allows}
use Rattle.sat_model.specs.State.{SiteState}
use Rattle.sat_site.specs.declared.input.SiteInput.{SiteInput}
use Rattle.sat_site.specs.Inputs.{fits_in}
use Rattle.sat_site.specs.Seen.{SiteSeen}
use Rattle.sat_site.specs.Stands.{StandsSite}

-- what fits a site of a deployment has a body
abbrev pub AllHaveBodies : Type 0
AllHaveBodies = (d : Deployed) (i : ℕ) (x : SiteSeen) (s : SiteState) (given : SiteInput) → IsDeployment d
    → StandsSite d i x s → fits_in x given ≡ true → input_allows given ≡ true
