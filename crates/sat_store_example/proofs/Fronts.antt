-- Labels that another site sends in an epoch, by what a site asks of the front of the link in its view.
use Rattle.std.proofs.Common.{◌≡◌, ◌&&◌, ◌==◌, Bool, true, false, Some, refl}
use Rattle.sat_label.specs.declared.label.Kind.{Kind}
use Rattle.sat_label.specs.declared.label.Kind.TheVariants as kind
use Rattle.sat_label.specs.declared.label.Label.{Label}
use Rattle.sat_site.specs.declared.input.SiteInput.TheVariants as input
use Rattle.sat_site.specs.Inputs.{fits_here, fits_in, is_front_here}
use Rattle.sat_site.specs.Seen.{SiteSeen}

and-true : (b : Bool) → (b && true) ≡ b
and-true true = refl
and-true false = refl

pub front_fits : (x : SiteSeen) (l : Label) → fits_in x (input.Turn (Some l)) ≡ is_front_here x.shape x.views.view l
unfolding fits_here
front_fits x l = and-true (is_front_here x.shape x.views.view l)
