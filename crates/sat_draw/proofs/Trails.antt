-- Trails as a map finds them.
use Rattle.std.specs.Prelude.{◌≡◌, ◌==◌, ◌&&◌, ◌||◌, ℕ, Bool, true, false, cond, List, [], ◌∷◌, Option, Some, if◌then◌else◌}
use Rattle.std.specs.Ordering.{nat_cmp, ordering_then, is_eq}
use Rattle.std.proofs.Common.{arith, refl, ap, ◌∙◌}
use Rattle.std.proofs.lemmas.Bool.Decides.{nat_tests}
use Rattle.std.specs.declared.cmp.Ordering.{Ordering}
use Rattle.std.specs.declared.cmp.Ordering.TheVariants.{Less, Equal, Greater}
use Rattle.std.specs.BTreeMap.{BTreeMap, is_at}
use Rattle.sat_label.specs.Words.{has}
use Rattle.sat_draw.specs.declared.element.Spot.{Spot}
use Rattle.sat_draw.specs.declared.trail.Trail.{Trail}
use Rattle.sat_draw.specs.Trails.{trail_eq, trail_cmp}
use Rattle.sat_draw.specs.Rows.{after_leaving}
use Rattle.sat_draw.specs.Tracks.{spot_by}

then-eq : (a b : Ordering) → is_eq (ordering_then a b) ≡ is_eq a && is_eq b
then-eq Less b = refl
then-eq Equal b = refl
then-eq Greater b = refl

nat-eq : (m n : ℕ) → is_eq (nat_cmp m n) ≡ (m == n)
nat-eq m n = grind (arith, nat_tests)

pub same-trails : (s t : Trail) → is_eq (trail_cmp s t) ≡ trail_eq s t
same-trails s t = grind (arith, nat_tests, then-eq, nat-eq)

pub none_left : (here : Spot) (before : Option Spot) (t : Trail) → before ≡ after_leaving [] here before t
none_left here before t = refl

-- one trail, and then the others
pub more_left : (old mid new : BTreeMap Trail Spot) (first : Trail) (rest : List Trail) (here : Spot)
    → ((q : Trail) → spot_by mid q ≡ cond (is_at (trail_cmp first) q) (Some here) (spot_by old q))
    → ((q : Trail) → spot_by new q ≡ after_leaving rest here (spot_by mid q) q)
    → (t : Trail) → spot_by new t ≡ after_leaving (first ∷ rest) here (spot_by old t) t
more_left old mid new first rest here one others t =
    others t ∙ ap (λ o. after_leaving rest here o t) (one t ∙ ap (λ (b : Bool). cond b (Some here) (spot_by old t)) (same-trails first t)) ∙ go (trail_eq first t) (has trail_eq rest t)
  where
    go : (a b : Bool) → (if b then Some here else cond a (Some here) (spot_by old t)) ≡ (if a || b then Some here else spot_by old t)
    go true true = refl
    go true false = refl
    go false true = refl
    go false false = refl
