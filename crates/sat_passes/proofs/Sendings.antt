-- What a site's node sends.
use Rattle.std.proofs.Common.{◌≡◌, ◌≢◌, ℕ, ◌<◌, ◌==◌, ◌&&◌, not, Bool, true, false, List, [], ◌∷◌, Option, Some, None, inl, inr, refl, sym, ap, ◌∙◌, arith}
use Rattle.std.proofs.lemmas.Bool.{and_parts, cases_eq, lt-ltb}
use Rattle.std.proofs.lemmas.Bool.Decides.{nat_tests}
use Rattle.sat_label.specs.declared.point.Point.{Point}
use Rattle.sat_label.specs.Order.{point_eq}
use Rattle.sat_label.proofs.Orders.{same-point}
use Rattle.sat_beat.specs.declared.Beat.{Beat}
use Rattle.sat_act.specs.declared.answer.Answer.{Answer}
use Rattle.sat_act.specs.declared.answer.Answer.TheVariants as ans
use Rattle.sat_act.specs.Settling.{is_done}
use Rattle.sat_site.specs.declared.input.SiteInput.{SiteInput}
use Rattle.sat_site.specs.declared.input.SiteInput.TheVariants as input
use Rattle.sat_site.specs.Changes.{beat_for, made_for}
use Rattle.sat_site.specs.Inputs.{fits_here, fits_in}
use Rattle.sat_site.specs.Seen.{SiteSeen}
use Rattle.sat_site.specs.SiteSteps.{site_answers}
use Rattle.sat_machines.specs.Sites.{is_standing}
use Rattle.sat_passes.specs.Sendings.{IsTold, beat_eq, is_told, last_made, numbers_eq, points_eq, would_do}

-- ---- beats

points-same : (a b : List Point) → points_eq a b ≡ true → a ≡ b
points-same [] [] e = refl
points-same [] (q ∷ qs) e = absurd (cc (e))
points-same (p ∷ ps) [] e = absurd (cc (e))
points-same (p ∷ ps) (q ∷ qs) e =
    let w = and_parts (point_eq p q) (points_eq ps qs) e in
    λ i. same-point p q w.0 i ∷ points-same ps qs w.1 i

numbers-same : (a b : List ℕ) → numbers_eq a b ≡ true → a ≡ b
numbers-same [] [] e = refl
numbers-same [] (n ∷ ns) e = absurd (cc (e))
numbers-same (m ∷ ms) [] e = absurd (cc (e))
numbers-same (m ∷ ms) (n ∷ ns) e =
    let w = and_parts (m == n) (numbers_eq ms ns) e in
    let head : m ≡ n = (let t = w.0 in grind (arith, nat_tests)) in
    λ i. head i ∷ numbers-same ms ns w.1 i

beats-same : (a b : Beat) → beat_eq a b ≡ true → a ≡ b
beats-same a b e =
    let w = and_parts (point_eq a.cut b.cut) (points_eq a.closes b.closes && numbers_eq a.counts b.counts) e in
    let v = and_parts (points_eq a.closes b.closes) (numbers_eq a.counts b.counts) w.1 in
    λ i. record { cut = same-point a.cut b.cut w.0 i; closes = points-same a.closes b.closes v.0 i; counts = numbers-same a.counts b.counts v.1 i }

told-at : (o : Option Beat) (b : Beat) → is_told o b ≡ true → o ≡ Some b
told-at None b e = absurd (cc (e))
told-at (Some a) b e = ap Some (beats-same a b e)

pub told_is : (x : SiteSeen) (j : ℕ) (told : Bool) → told ≡ is_told (last_made (made_for x j)) (beat_for x j) → told ≡ true → IsTold x j
told_is x j told e yes' = λ differ. told-at (last_made (made_for x j)) (beat_for x j) (sym e ∙ yes')

-- ---- what a site would do

other-is : (i j : ℕ) → i ≢ j → (i == j) ≡ false
other-is i j differ = elim (cases_eq i j) [
  | inl same ↦ absurd (differ same)
  | inr other ↦ grind (arith, nat_tests)
]

pub beat_done : (x : SiteSeen) (j : ℕ) → j < x.shape.sites → j ≢ x.shape.site → would_do x (input.Beat j) ≡ true
unfolding fits_here site_answers
beat_done x j less differ = λ n. ((lt-ltb j x.shape.sites less n && not (other-is j x.shape.site differ n)) && true) && true

pub would_fit : (x : SiteSeen) (given : SiteInput) → would_do x given ≡ true → fits_in x given ≡ true
would_fit x given e = (let w = and_parts (fits_in x given) (is_done (site_answers x given)) e in w.0)

pub done_stands : (r : Answer) → is_done r ≡ true → is_standing r ≡ true
done_stands (ans.Refused why') e = absurd (cc (e))
done_stands _ e = refl
