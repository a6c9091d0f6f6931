-- What fits a site of a deployment has a body.
use Rattle.std.specs.Prelude.{◌≡◌, ◌<◌, ◌≤◌, ◌^◌, ℕ, suc, Bool, true, false, ◌&&◌, ◌||◌, not, ◌==◌, nat_le, nat_lt, List, [], ◌∷◌, length, Option, Some, None, is_some, refl}
use Rattle.std.proofs.Common.{arith, ap, ◌∙◌}
use Rattle.std.proofs.lemmas.Bool.Decides.{nat_tests}
use Rattle.sat_label.specs.declared.items.Items.{Items}
use Rattle.sat_label.specs.declared.items.Items.TheVariants.{One, Two, Three, Four}
use Rattle.sat_label.specs.declared.label.Kind.{Kind}
use Rattle.sat_label.specs.declared.label.Kind.TheVariants as kind
use Rattle.sat_label.specs.declared.label.Label.{Label}
use Rattle.sat_label.specs.Grouped.{are_items, list_of}
use Rattle.sat_bulk.specs.Payloads.{Payload}
use Rattle.sat_sites.specs.Interested.{are_below, keeps, keeps_one}
use Rattle.sat_sites.specs.declared.shape.Shape.{Shape}
use Rattle.sat_act.specs.Deployed.{Deployed}
use Rattle.sat_act.specs.Limits.{IsDeployment}
use Rattle.sat_act.specs.Parts.{items_of}
use Rattle.sat_model.specs.State.{SiteState}
use Rattle.sat_model.specs.Fits.{is_time}
use Rattle.sat_bodies.specs.Bodies.{input_allows}
use Rattle.sat_wire.specs.Code.{both_fit}
use Rattle.sat_wire.specs.Labels.{ascend, kind_allows, label_allows}
use Rattle.sat_wire.specs.Payloads.{payload_allows}
use Rattle.sat_site.specs.declared.input.SiteInput.{SiteInput}
use Rattle.sat_site.specs.declared.input.SiteInput.TheVariants as input
use Rattle.sat_site.specs.Inputs.{fits_here, is_carried_here, is_counted, is_front_here, is_group_here, is_guest_here, is_kept_here, is_kind_here, is_other_here, is_gear_here, is_sized}
use Rattle.sat_site.specs.Seen.{SiteSeen, has_parts_here}
use Rattle.sat_site.specs.Stands.{StandsSite}
use Rattle.sat_lasting.specs.Laws.{AllHaveBodies}

first-of : (a b : Bool) → (a && b) ≡ true → a ≡ true
first-of true b e = refl
first-of false b e = absurd (cc)

second-of : (a b : Bool) → (a && b) ≡ true → b ≡ true
second-of true b e = e
second-of false b e = absurd (cc)

both-fit : (a b : Bool) → a ≡ true → b ≡ true → both_fit a b ≡ true
both-fit true b e f = f
both-fit false b e f = absurd (cc)

few-items : (items : Items) → length (list_of items) ≤ 4
few-items (One a) = omega arith
few-items (Two a b) = omega arith
few-items (Three a b c) = omega arith
few-items (Four a b c d) = omega arith

small : (n m : ℕ) → n ≤ m → m < 256 → nat_lt n 256 ≡ true
small n m le lt = grind (arith, nat_tests, le, lt)

same-length : (n m : ℕ) → (n == m) ≡ true → n ≡ m
same-length n m e = grind (arith, nat_tests, e)

kind-allowed : (shape : Shape) (view : ℕ) (k : Kind) → is_kind_here shape view k ≡ true → kind_allows k ≡ true
kind-allowed shape view (kind.Update items) e = first-of (are_items (list_of items)) (are_below (length shape.interest.replicas) (list_of items)) e
kind-allowed shape view (kind.Move j) e = refl
kind-allowed shape view kind.Pulse e = refl
kind-allowed shape view (kind.Close n) e = refl

front-allowed : (shape : Shape) (view : ℕ) (l : Label) → is_front_here shape view l ≡ true → label_allows l ≡ true
front-allowed shape view l e =
    kind-allowed shape view l.kind (second-of (is_other_here shape l.point.site) (is_kind_here shape view l.kind) (second-of (is_time l.point.ts) (is_other_here shape l.point.site && is_kind_here shape view l.kind) e))

-- as many parts as items
parts-long : (shape : Shape) (ns : List ℕ) (ps : List (Option (List ℕ))) → has_parts_here shape ns ps ≡ true → length ps ≡ length ns
parts-long shape [] [] e = refl
parts-long shape [] (p ∷ ps) e = absurd (cc)
parts-long shape (n ∷ ns) [] e = absurd (cc)
parts-long shape (n ∷ ns) (p ∷ ps) e = ap suc (parts-long shape ns ps (second-of (not (keeps shape.interest n shape.site) || is_some p) (has_parts_here shape ns ps) e))

payload-allowed : (shape : Shape) (p : Payload) (k : Kind) → p.label.kind ≡ k → is_kept_here shape k ≡ true → has_parts_here shape (items_of k) p.values ≡ true → payload_allows p ≡ true
payload-allowed shape p (kind.Update items) is kept parts =
    let group : is_group_here shape items ≡ true = first-of (is_group_here shape items) (keeps_one shape.interest (list_of items) shape.site) kept in
    let order : are_items (list_of items) ≡ true = first-of (are_items (list_of items)) (are_below (length shape.interest.replicas) (list_of items)) group in
    let long : length p.values ≡ length (list_of items) = parts-long shape (list_of items) p.values parts in
    let few : length (list_of items) ≤ 4 = few-items items in
    both-fit (label_allows p.label) (nat_lt (length p.values) 256) (ap kind_allows is ∙ order) (small (length p.values) 4 (omega (arith, long, few)) (omega arith))
payload-allowed shape p (kind.Move j) is kept parts = absurd (cc)
payload-allowed shape p kind.Pulse is kept parts = absurd (cc)
payload-allowed shape p (kind.Close n) is kept parts = absurd (cc)

few-closes : (n m : ℕ) → nat_le n m ≡ true → m ≤ 16 → nat_lt n 65536 ≡ true
few-closes n m e le = grind (arith, nat_tests, e, le)

few-counts : (n m : ℕ) → (n == m) ≡ true → m ≤ 64 → nat_lt n 65536 ≡ true
few-counts n m e le = grind (arith, nat_tests, e, le)

allowed : (d : Deployed) (i : ℕ) (x : SiteSeen) (s : SiteState) (given : SiteInput) → IsDeployment d → StandsSite d i x s → fits_here x given ≡ true → is_sized x given ≡ true → input_allows given ≡ true
unfolding fits_here
allowed d i x s (input.Write seen items values) limits stands fits sized =
    let rest : (is_group_here x.shape items && (length values == length (list_of items))) ≡ true = second-of (is_carried_here x.shape seen) (is_group_here x.shape items && (length values == length (list_of items))) fits in
    let group : is_group_here x.shape items ≡ true = first-of (is_group_here x.shape items) (length values == length (list_of items)) rest in
    let long : length values ≡ length (list_of items) = same-length (length values) (length (list_of items)) (second-of (is_group_here x.shape items) (length values == length (list_of items)) rest) in
    let few : length (list_of items) ≤ 4 = few-items items in
    both-fit (ascend items) (nat_lt (length values) 256) (first-of (are_items (list_of items)) (are_below (length x.shape.interest.replicas) (list_of items)) group) (small (length values) 4 (omega (arith, long, few)) (omega arith))
allowed d i x s (input.Turn None) limits stands fits sized = refl
allowed d i x s (input.Turn (Some l)) limits stands fits sized = front-allowed x.shape x.views.view l fits
allowed d i x s (input.Bulk from gear number p) limits stands fits sized =
    let whole = second-of (is_other_here x.shape from && is_gear_here x.shape gear) _ fits in
    let made = first-of (is_guest_here x.shape from p.label && has_parts_here x.shape (items_of p.label.kind) p.values) _ whole in
    payload-allowed x.shape p p.label.kind refl
    (second-of (is_time p.label.point.ts && (p.label.point.site == from)) (is_kept_here x.shape p.label.kind) (first-of (is_guest_here x.shape from p.label) (has_parts_here x.shape (items_of p.label.kind) p.values) made))
    (second-of (is_guest_here x.shape from p.label) (has_parts_here x.shape (items_of p.label.kind) p.values) made)
allowed d i x s (input.BeatIn from number beat) limits stands fits sized =
    let counted : is_counted x beat ≡ true = second-of (nat_lt number (2 ^ 63)) (is_counted x beat) sized in
    let gears : x.shape.gears ≡ d.gears = ap (λ (shape : Shape). shape.gears) stands.shape in
    let few_gears : d.gears ≤ 64 = omega (arith, limits.few_gears) in
    let few_plans : length d.plans ≤ 16 = omega (arith, limits.few_plans) in
    both-fit (nat_lt (length beat.closes) 65536) (nat_lt (length beat.counts) 65536)
    (few-closes (length beat.closes) (length x.views.stamp) (second-of (length beat.counts == x.shape.gears) (nat_le (length beat.closes) (length x.views.stamp)) counted) (omega (arith, stands.views.count, few_plans)))
    (few-counts (length beat.counts) x.shape.gears (first-of (length beat.counts == x.shape.gears) (nat_le (length beat.closes) (length x.views.stamp)) counted) (omega (arith, gears, few_gears)))
allowed d i x s (input.Tick g t) limits stands fits sized = refl
allowed d i x s (input.Read seen n) limits stands fits sized = refl
allowed d i x s (input.Move seen j) limits stands fits sized = refl
allowed d i x s (input.Attach seen) limits stands fits sized = refl
allowed d i x s input.Gather limits stands fits sized = refl
allowed d i x s input.Emit limits stands fits sized = refl
allowed d i x s input.Pulse limits stands fits sized = refl
allowed d i x s (input.Beat j) limits stands fits sized = refl
allowed d i x s input.Stamp limits stands fits sized = refl
allowed d i x s input.Close limits stands fits sized = refl
allowed d i x s input.Fall limits stands fits sized = refl
allowed d i x s input.Advance limits stands fits sized = refl

pub all_have_bodies : AllHaveBodies
all_have_bodies d i x s given limits stands fits = allowed d i x s given limits stands (first-of (fits_here x given) (is_sized x given) fits) (second-of (fits_here x given) (is_sized x given) fits)
