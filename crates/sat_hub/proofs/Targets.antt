-- Whether a label has a target.
use Rattle.std.specs.Prelude.{◌≡◌, ◌<◌, ℕ, Bool, true, false, ◌&&◌, List, [], ◌∷◌, Option, Some, None, slice_get, refl}
use Rattle.std.proofs.Common.{subst, sym, ◌∙◌, inl, inr}
use Rattle.std.proofs.lemmas.Bool.{eqb-true, ltb-true, or_cases}
use Rattle.sat_label.specs.declared.label.Label.{Label}
use Rattle.sat_label.specs.declared.label.Kind.{Kind}
use Rattle.sat_label.specs.declared.label.Kind.TheVariants.{Update, Move, Pulse, Close}
use Rattle.sat_label.specs.declared.point.Point.{Point}
use Rattle.sat_label.specs.declared.site_set.SiteSet.{SiteSet}
use Rattle.sat_label.specs.Grouped.{list_of}
use Rattle.sat_label.specs.Words.{bit}
use Rattle.sat_sites.specs.Interested.{Interested, IsInterest, IsKindOf, IsLabelOf, is_for, keeps, keeps_one}
use Rattle.sat_sites.specs.declared.shape.Shape.{Shape}
use Rattle.sat_gear.specs.Gear.{IsShape}
use Rattle.sat_hub.specs.Gives.{HasTarget}

kept-within : (a : Interested) (x k : ℕ) (o : Option SiteSet) → IsInterest a → slice_get a.replicas x ≡ o → elim o [ None ↦ false | Some set ↦ bit set.bits k ] ≡ true → k < a.sites
kept-within a x k None i e h = absurd (cc)
kept-within a x k (Some set) i e h = i.within x k set e h

kept-one-within : (a : Interested) (xs : List ℕ) (k : ℕ) → IsInterest a → keeps_one a xs k ≡ true → k < a.sites
kept-one-within a [] k i h = absurd (cc)
kept-one-within a (x ∷ xs) k i h = elim (or_cases (keeps a x k) (keeps_one a xs k) h) [
  | inl here ↦ kept-within a x k (slice_get a.replicas x) i refl here
  | inr there ↦ kept-one-within a xs k i there
]

first-of : (a b : Bool) → (a && b) ≡ true → a ≡ true
first-of true b e = refl
first-of false b e = absurd (cc)

target-by : (a : Interested) (p : Point) (kind : Kind) (k : ℕ) → IsInterest a → IsKindOf a kind → is_for a (record { point = p; kind = kind }) k ≡ true → k < a.sites
unfolding is_for
target-by a p (Update items) k i own e = kept-one-within a (list_of items) k i (first-of _ _ e)
target-by a p (Move j) k i own e = subst (λ (n : ℕ). n < a.sites) (sym (eqb-true k j e)) own
target-by a p Pulse k i own e = ltb-true k a.sites (first-of _ _ e)
target-by a p (Close f) k i own e = ltb-true k a.sites (first-of _ _ e)

-- a target is one of the sites
target-within : (a : Interested) (l : Label) (k : ℕ) → IsInterest a → IsLabelOf a l → is_for a l k ≡ true → k < a.sites
target-within a l k i own e = target-by a l.point l.kind k i own.kind e

-- a site of the set of targets
pub some-target : (shape : Shape) (l : Label) (bits : ℕ) → IsShape shape → ((k : ℕ) → bit bits k ≡ is_for shape.interest l k) → IsLabelOf shape.interest l → (k : ℕ) × (bit bits k ≡ true) × (bit bits k ≡ true) → HasTarget shape l
some-target shape l bits k e own t =
    let here : is_for shape.interest l t.0 ≡ true = sym (e t.0) ∙ t.1 in
    (t.0, subst (λ (n : ℕ). t.0 < n) k.sites (target-within shape.interest l t.0 k.interest own here), here)

pub target-there : (shape : Shape) (l : Label) (bits : ℕ) → ((k : ℕ) → bit bits k ≡ is_for shape.interest l k) → HasTarget shape l → (k : ℕ) × (bit bits k ≡ true) × (bit bits k ≡ true)
target-there shape l bits e t = (t.0, e t.0 ∙ t.2, e t.0 ∙ t.2)
