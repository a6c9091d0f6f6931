-- What an act answers and leaves, by what it was handed.
use Rattle.std.specs.Prelude.{◌≡◌, IfOk, OnOk}
use Rattle.std.proofs.Common.{Result, Ok, Err, ap, sym, ◌∙◌}
use Rattle.std.specs.declared.alloc.AllocError.{AllocError}
use Rattle.sat_act.specs.declared.answer.Answer.{Answer}
use Rattle.sat_site.specs.declared.input.SiteInput as code
use Rattle.sat_site.specs.Seen.{SiteSeen}
use Rattle.sat_site.specs.Does.{Does}
use Rattle.sat_site.specs.SiteSteps.{site_after, site_answers}
use Rattle.sat_site.proofs.Determined.{determined}

-- ---- by what it was handed

pub same-answer : (x : SiteSeen) (g h : code.SiteInput) (r : Answer) → g ≡ h → r ≡ site_answers x h → r ≡ site_answers x g
same-answer x g h r is e = e ∙ ap (site_answers x) (sym is)

pub same-after : (x y : SiteSeen) (g h : code.SiteInput) → g ≡ h → y ≡ site_after x h → y ≡ site_after x g
same-after x y g h is e = e ∙ ap (site_after x) (sym is)

pub ok-answer : (x : SiteSeen) (g h : code.SiteInput) (r : Result Answer AllocError) → g ≡ h → IfOk r (λ a. a ≡ site_answers x h) → IfOk r (λ a. a ≡ site_answers x g)
ok-answer x g h (Ok a) is e = same-answer x g h a is e
ok-answer x g h (Err e) is tell = tt

pub ok-after : (x y : SiteSeen) (g h : code.SiteInput) (r : Result Answer AllocError) → g ≡ h → OnOk r (y ≡ site_after x h) → IfOk r (λ a. y ≡ site_after x g)
ok-after x y g h (Ok a) is e = same-after x y g h is e
ok-after x y g h (Err e) is tell = tt

pub does-answer : (x y : SiteSeen) (g h : code.SiteInput) (r : Answer) → g ≡ h → Does x h r y → r ≡ site_answers x g
does-answer x y g h r is w = same-answer x g h r is (determined x h r y w).answer

pub does-after : (x y : SiteSeen) (g h : code.SiteInput) (r : Answer) → g ≡ h → Does x h r y → y ≡ site_after x g
does-after x y g h r is w = same-after x y g h is (determined x h r y w).after

pub done-answer : (x y : SiteSeen) (g h : code.SiteInput) (r : Result Answer AllocError) → g ≡ h → IfOk r (λ a. Does x h a y) → IfOk r (λ a. a ≡ site_answers x g)
done-answer x y g h (Ok a) is w = does-answer x y g h a is w
done-answer x y g h (Err e) is w = tt

pub done-after : (x y : SiteSeen) (g h : code.SiteInput) (r : Result Answer AllocError) → g ≡ h → IfOk r (λ a. Does x h a y) → IfOk r (λ a. y ≡ site_after x g)
done-after x y g h (Ok a) is w = does-after x y g h a is w
done-after x y g h (Err e) is w = tt

-- ---- both of two tests
