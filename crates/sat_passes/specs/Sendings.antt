-- What a site's node sends.
use Rattle.std.specs.Prelude.{◌≡◌, ◌≢◌, ◌⊎◌, ℕ, ◌-◌, ◌&&◌, ◌==◌, Bool, true, false, List, [], ◌∷◌, length}
use Rattle.std.specs.Prelude.{Option, Some, None, slice_get}
use Rattle.sat_label.specs.declared.point.Point.{Point}
use Rattle.sat_label.specs.Order.{point_eq}
use Rattle.sat_beat.specs.declared.Beat.{Beat}
use Rattle.sat_act.specs.Settling.{is_done}
use Rattle.sat_site.specs.declared.input.SiteInput.{SiteInput}
use Rattle.sat_site.specs.Changes.{beat_for, made_for}
use Rattle.sat_site.specs.Inputs.{fits_in}
use Rattle.sat_site.specs.Seen.{SiteSeen}
use Rattle.sat_site.specs.SiteSteps.{site_answers}
use Rattle.sat_node.specs.declared.kept.CallFault.{CallFault}
use Rattle.sat_node.specs.declared.kept.CallFault.TheVariants as fault
use Rattle.sat_node.specs.Seen.{last_number}
use Rattle.sat_node.specs.Links.{HeldSeen}

-- whether the site may be handed it and would do it
abbrev pub would_do : SiteSeen → SiteInput → Bool
would_do x given = fits_in x given && is_done (site_answers x given)

-- the last of the beats that were made for a site
abbrev pub last_made : List Beat → Option Beat
last_made beats = slice_get beats (length beats - 1)

-- site j is the site itself, or the last beat that was made for it is the one that would be made
abbrev pub IsTold : SiteSeen → ℕ → Type 0
IsTold x j = j ≢ x.shape.site → last_made (made_for x j) ≡ Some (beat_for x j)

-- memory ran out, or the greatest number is the node's
abbrev pub FailsAlone : {M I A : Type 0} → HeldSeen M I A → CallFault → Type 0
FailsAlone h f = (f ≡ fault.Memory) ⊎ ((f ≡ fault.Worn last_number) × (h.node.number ≡ last_number))

-- ---- beats that are the same

abbrev pub points_eq : List Point → List Point → Bool
points_eq [] [] = true
points_eq [] (q ∷ qs) = false
points_eq (p ∷ ps) [] = false
points_eq (p ∷ ps) (q ∷ qs) = point_eq p q && points_eq ps qs

abbrev pub numbers_eq : List ℕ → List ℕ → Bool
numbers_eq [] [] = true
numbers_eq [] (n ∷ ns) = false
numbers_eq (m ∷ ms) [] = false
numbers_eq (m ∷ ms) (n ∷ ns) = (m == n) && numbers_eq ms ns

abbrev pub beat_eq : Beat → Beat → Bool
beat_eq a b = point_eq a.cut b.cut && (points_eq a.closes b.closes && numbers_eq a.counts b.counts)

-- whether there is a beat, and it is this one
abbrev pub is_told : Option Beat → Beat → Bool
is_told None b = false
is_told (Some a) b = beat_eq a b
