-- What holds of sites, of all that a site keeps and all that it is handed.
use Rattle.std.specs.Prelude.{ℕ, ◌≡◌, true, false, ◌&&◌}
use Rattle.sat_act.specs.Deployed.{Deployed}
use Rattle.sat_act.specs.Limits.{IsDeployment}
use Rattle.sat_act.specs.Settling.{is_done}
use Rattle.sat_act.specs.declared.answer.Answer.TheVariants as ans
use Rattle.sat_model.specs.Fits.{fits}
use Rattle.sat_model.specs.Input as given
use Rattle.sat_model.specs.State.{SiteState}
use Rattle.sat_site.specs.declared.input.SiteInput as code
use Rattle.sat_site.specs.Seen.{SiteSeen, IsSite}
use Rattle.sat_site.specs.Changes.{clocked}
use Rattle.sat_site.specs.Inputs.{fits_in, input_of, is_sized}
use Rattle.sat_site.specs.Stands.{StandsSite}
use Rattle.sat_site.specs.Gives.{AnswersBy, StandsBy, IsSent, PromisesUpTo}
use Rattle.sat_site.specs.SiteSteps.{site_answers, site_sends, site_after}

-- the answer is the machine's at each state that the site stands for, and the value after stands for what the machine
-- makes of that state; what is sent is the label that enters the tree; what isn't done changes nothing, and nothing
-- changes the shape
pub record StepHolds (x : SiteSeen) (given : code.SiteInput) : Type 0 where
  pub answers : AnswersBy x (input_of given) (site_answers x given)
  pub stands : StandsBy x (input_of given) (site_answers x given) (site_after x given)
  pub sent : IsSent x.shape x.views (site_answers x given) (site_sends x given)
  pub refused : is_done (site_answers x given) ≡ false → site_after x given ≡ x
  pub shape : (site_after x given).shape ≡ x.shape

-- of each site, and of each input that fits
abbrev pub EachStep : Type 0
EachStep = (x : SiteSeen) (given : code.SiteInput) → IsSite x → fits_in x given ≡ true → StepHolds x given

-- a tick of each gear to a number that no promise is above is the part of the act clock at one site
abbrev pub EachClock : Type 0
EachClock =
    (x : SiteSeen) (ts : ℕ) → IsSite x → PromisesUpTo x ts → StandsBy x (given.Clock ts) (ans.Clocked ts) (clocked x ts)

-- what a site asks is what the machine asks at each state that the site stands for, and that a window can take the
-- number
abbrev pub EachFits : Type 0
EachFits =
    (x : SiteSeen) (given : code.SiteInput) (d : Deployed) (i : ℕ) (s : SiteState) →
    IsDeployment d → IsSite x → StandsSite d i x s → fits_in x given ≡ (fits d i s (input_of given) && is_sized x given)
