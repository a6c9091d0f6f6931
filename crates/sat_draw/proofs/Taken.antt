-- What is known of the labels under way once some were taken.
use Rattle.std.specs.Prelude.{◌≡◌, ◌||◌, Bool, true, false, cond, List, [], ◌∷◌, Option, None, if◌then◌else◌}
use Rattle.std.proofs.Common.{refl, ap, ◌∙◌}
use Rattle.std.specs.BTreeMap.{BTreeMap, is_at}
use Rattle.sat_draw.specs.declared.element.Spot.{Spot}
use Rattle.sat_draw.specs.declared.trail.Trail.{Trail}
use Rattle.sat_draw.specs.declared.trail.Coming.{Coming}
use Rattle.sat_draw.specs.Trails.{trail_eq, trail_cmp}
use Rattle.sat_draw.specs.Tracks.{spot_by}
use Rattle.sat_draw.specs.Lost.{takes, after_taking}
use Rattle.sat_draw.proofs.Trails.{same-trails}

pub none_taken : (before : Option Spot) (t : Trail) → before ≡ after_taking false [] before t
none_taken before t = refl

-- one, and then the others
pub more_taken : (old mid new : BTreeMap Trail Spot) (first : Coming) (rest : List Coming)
    → ((q : Trail) → spot_by mid q ≡ cond (is_at (trail_cmp first.trail) q) None (spot_by old q))
    → ((q : Trail) → spot_by new q ≡ after_taking false rest (spot_by mid q) q)
    → (t : Trail) → spot_by new t ≡ after_taking false (first ∷ rest) (spot_by old t) t
more_taken old mid new first rest one others t =
    others t ∙ ap (λ o. after_taking false rest o t) (one t ∙ ap (λ (b : Bool). cond b None (spot_by old t)) (same-trails first.trail t)) ∙ go (trail_eq first.trail t) (takes rest t)
  where
    go : (a b : Bool) → (if b then None else cond a None (spot_by old t)) ≡ (if a || b then None else spot_by old t)
    go true true = refl
    go true false = refl
    go false true = refl
    go false false = refl

pub all_taken : (all : List Coming) (before : Option Spot) (t : Trail) → None ≡ after_taking true all before t
all_taken all before t = refl
