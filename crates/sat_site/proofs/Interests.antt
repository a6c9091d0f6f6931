-- The interest of a deployment's sites.
use Rattle.std.specs.Prelude.{◌≡◌, ℕ, zero, suc, Bool, false, not, ◌&&◌, ◌||◌, ◌==◌, List, [], ◌∷◌, length, map, None, Some, slice_get, refl}
use Rattle.std.specs.List.{list_all}
use Rattle.std.proofs.Common.{ap, ◌∙◌}
use Rattle.std.proofs.lemmas.List.{length-map}
use Rattle.sat_label.specs.declared.items.Items.{Items}
use Rattle.sat_label.specs.declared.items.Items.TheVariants.{One, Two, Three, Four}
use Rattle.sat_label.specs.declared.label.Kind.TheVariants.{Update}
use Rattle.sat_label.specs.declared.point.Point.{Point}
use Rattle.sat_label.specs.Grouped.{list_of}
use Rattle.sat_label.specs.Words.{bit}
use Rattle.sat_sites.specs.Interested.{keeps, keeps_one, is_for}
use Rattle.sat_act.specs.declared.deployment.Item.{Item}
use Rattle.sat_act.specs.Deployed.{Deployed}
use Rattle.sat_act.specs.Parts.{keeps_all, keeps_some, replicates, is_target}
use Rattle.sat_model.specs.State.{SiteState}
use Rattle.sat_site.specs.Seen.{SiteSeen}
use Rattle.sat_model.specs.Interests.{interest_of, replicas_of}
use Rattle.sat_sites.specs.declared.shape.Shape.{Shape}
use Rattle.sat_site.specs.Stands.{StandsSite}
use Rattle.sat_site.specs.SiteSteps.{keeps_each, keeps_item}

kept-at : (items : List Item) (x k : ℕ) → ◌≡◌ {A = Bool} (elim (slice_get (map replicas_of items) x) [ None ↦ false | Some set ↦ bit set.bits k ]) (elim (slice_get items x) [ None ↦ false | Some item ↦ bit item.replicas.bits k ])
kept-at [] x k = refl
kept-at (item ∷ items) zero k = refl
kept-at (item ∷ items) (suc x) k = kept-at items x k

pub keeps-is : (d : Deployed) (x k : ℕ) → keeps (interest_of d) x k ≡ replicates d x k
unfolding replicates
keeps-is d x k = kept-at d.items x k

pub keeps-one-is : (d : Deployed) (xs : List ℕ) (k : ℕ) → keeps_one (interest_of d) xs k ≡ keeps_some d xs k
keeps-one-is d [] k = refl
keeps-one-is d (x ∷ xs) k = λ j. keeps-is d x k j || keeps-one-is d xs k j

pub keeps-here : (d : Deployed) (i : ℕ) (x : SiteSeen) (s : SiteState) (n : ℕ) → StandsSite d i x s → keeps_item x n ≡ replicates d n i
keeps-here d i x s n st = ap (λ (shape : Shape). keeps shape.interest n shape.site) st.shape ∙ keeps-is d n i

-- whether a test passes each of some numbers
pub all-by : (f g : ℕ → Bool) (ns : List ℕ) → ((n : ℕ) → f n ≡ g n) → list_all f ns ≡ list_all g ns
all-by f g [] e = refl
all-by f g (n ∷ ns) e = (λ j. e n j && all-by f g ns e j)

pub keeps-each-here : (d : Deployed) (i : ℕ) (x : SiteSeen) (s : SiteState) (items : Items) → StandsSite d i x s → keeps_each x (list_of items) ≡ keeps_all d (list_of items) i
keeps-each-here d i x s (One a) st = all-by (keeps_item x) (λ n. replicates d n i) (a ∷ []) (λ n. keeps-here d i x s n st)
keeps-each-here d i x s (Two a b) st = all-by (keeps_item x) (λ n. replicates d n i) (a ∷ b ∷ []) (λ n. keeps-here d i x s n st)
keeps-each-here d i x s (Three a b c) st = all-by (keeps_item x) (λ n. replicates d n i) (a ∷ b ∷ c ∷ []) (λ n. keeps-here d i x s n st)
keeps-each-here d i x s (Four a b c e) st = all-by (keeps_item x) (λ n. replicates d n i) (a ∷ b ∷ c ∷ e ∷ []) (λ n. keeps-here d i x s n st)

pub target-is : (d : Deployed) (p : Point) (items : Items) (k : ℕ) → is_for (interest_of d) (record { point = p; kind = Update items }) k ≡ is_target d (record { point = p; kind = Update items }) k
unfolding is_for is_target
target-is d p items k = ap (λ (b : Bool). b && not (k == p.site)) (keeps-one-is d (list_of items) k)

pub items-are : (d : Deployed) → length (interest_of d).replicas ≡ length d.items
items-are d = length-map d.items replicas_of
