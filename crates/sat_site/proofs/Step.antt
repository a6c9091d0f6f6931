-- A step that is not done changes nothing.
use Rattle.std.specs.Prelude.{◌≡◌, true, false, IfOk}
use Rattle.std.proofs.Common.{Result, Ok, Err, ap, sym, ◌∙◌}
use Rattle.std.specs.declared.alloc.AllocError.{AllocError}
use Rattle.sat_act.specs.declared.answer.Answer.{Answer}
use Rattle.sat_act.specs.Settling.{is_done}
use Rattle.sat_site.specs.declared.input.SiteInput as code
use Rattle.sat_site.specs.Inputs.{fits_in}
use Rattle.sat_site.specs.Laws.{EachStep}
use Rattle.sat_site.specs.Seen.{SiteSeen, IsSite}
use Rattle.sat_site.specs.SiteSteps.{site_after, site_answers}

pub undone : (x y : SiteSeen) (given : code.SiteInput) (r : Answer) → EachStep → IsSite x → fits_in x given ≡ true → r ≡ site_answers x given → y ≡ site_after x given → is_done r ≡ false → y ≡ x
undone x y given r laws k f answer after e = after ∙ (laws x given k f).refused (ap is_done (sym answer) ∙ e)

pub undone-ok : (x y : SiteSeen) (given : code.SiteInput) (r : Result Answer AllocError) → EachStep → IsSite x → fits_in x given ≡ true → IfOk r (λ a. a ≡ site_answers x given) → IfOk r (λ a. y ≡ site_after x given) → IfOk r (λ a. is_done a ≡ false → y ≡ x)
undone-ok x y given (Ok a) laws k f answer after = λ e. undone x y given a laws k f answer after e
undone-ok x y given (Err e) laws k f answer after = tt
