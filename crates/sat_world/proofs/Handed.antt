-- What a site is handed by a call of its own fits it, and that call is then a step of the site at its place.
use Rattle.std.specs.Prelude.{◌≡◌, ◌<◌, ℕ, true, List, length, set, get_or, slice_get, Some}
use Rattle.std.proofs.Common.{ap}
use Rattle.sat_act.specs.declared.answer.Answer.{Answer}
use Rattle.sat_site.specs.declared.input.SiteInput as code
use Rattle.sat_site.specs.Seen.{SiteSeen, IsSite}
use Rattle.sat_site.specs.Inputs.{fits_in}
use Rattle.sat_site.specs.Does.{Does}
use Rattle.sat_site.specs.SiteSteps.{site_answers, site_after}
use Rattle.sat_site.proofs.Determined.{determined}
use Rattle.sat_world.specs.Steps.{StepsAt}
use Rattle.sat_world.proofs.Lists.{index-at}

-- what fits the site at a place
abbrev pub FitsAt : List SiteSeen → ℕ → code.SiteInput → Type 0
FitsAt xs i given = (x : SiteSeen) → slice_get xs i ≡ Some x → IsSite x → fits_in x given ≡ true

pub fits-at : (xs : List SiteSeen) (i : ℕ) (given : code.SiteInput) (x : SiteSeen) → i < length xs → x ≡ get_or xs i x → IsSite x → FitsAt xs i given → fits_in x given ≡ true
fits-at xs i given x lt is k fits = fits x (index-at xs i x lt is) k

pub steps-at : (xs : List SiteSeen) (i : ℕ) (given : code.SiteInput) (x y : SiteSeen) (r : Answer) → i < length xs → x ≡ get_or xs i x → IsSite x → FitsAt xs i given → r ≡ site_answers x given → y ≡ site_after x given →
    StepsAt xs i given r (set xs i y)
steps-at xs i given x y r lt is k fits answers after = record {
  before = x;
  at = index-at xs i x lt is;
  sound = k;
  fits = fits-at xs i given x lt is k fits;
  answers = answers;
  rest = ap (set xs i) after;
}

pub does-at : (xs : List SiteSeen) (i : ℕ) (given : code.SiteInput) (x y : SiteSeen) (r : Answer) → i < length xs → x ≡ get_or xs i x → IsSite x → FitsAt xs i given → Does x given r y → StepsAt xs i given r (set xs i y)
does-at xs i given x y r lt is k fits does = steps-at xs i given x y r lt is k fits (determined x given r y does).answer (determined x given r y does).after
