-- What is true of each site stays so.
use Rattle.std.specs.Prelude.{◌≡◌, ◌<◌, ℕ, true}
use Rattle.sat_act.specs.Deployed.{Deployed}
use Rattle.sat_act.specs.Limits.{IsDeployment}
use Rattle.sat_site.specs.declared.input.SiteInput.{SiteInput}
use Rattle.sat_site.specs.Changes.{new_site}
use Rattle.sat_site.specs.Inputs.{fits_in}
use Rattle.sat_site.specs.Seen.{IsSite, SiteSeen}
use Rattle.sat_site.specs.SiteSteps.{site_after}

-- it holds of a site at which nothing has happened
abbrev pub SitesStart : Type 0
SitesStart = (d : Deployed) (i : ℕ) → IsDeployment d → i < d.sites → IsSite (new_site d i)

-- and of what a site becomes by an input that fits
abbrev pub SitesStay : Type 0
SitesStay = (x : SiteSeen) (given : SiteInput) → IsSite x → fits_in x given ≡ true → IsSite (site_after x given)
