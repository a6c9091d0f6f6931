-- What gears gave, as the code tests and counts it.
use Rattle.std.specs.Prelude.{◌≡◌, ◌<◌, ◌≤◌, ◌+◌, ◌^◌, ◌==◌, ◌&&◌, not, nat_lt, ℕ, zero, suc, Bool, true, false, List, [], ◌∷◌, ◌++◌, length, take, get_or, slice_get, Some, refl}
use Rattle.std.specs.Bool.{Decides}
use Rattle.std.specs.List.{flat_map, list_all}
use Rattle.std.proofs.Common.{ap, subst, sym, ◌∙◌, arith, inl, inr, length-append}
use Rattle.std.proofs.lemmas.Bool.{and_parts, eq-eqb, eqb-false, eqb-true, ltb-true, ne_eqb, not-true}
use Rattle.std.proofs.lemmas.Bool.Decides.{nat_tests}
use Rattle.std.proofs.lemmas.List.{append-nil, take_more}
use Rattle.std.proofs.lemmas.List.Concat.{flat_map-append}
use Rattle.std.proofs.lemmas.List.Folds.{length-flat_map-take}
use Rattle.sat_label.specs.declared.items.Items.{Items}
use Rattle.sat_label.specs.declared.label.Kind.{Kind}
use Rattle.sat_label.specs.declared.label.Kind.TheVariants.{Update, Move, Pulse, Close}
use Rattle.sat_label.specs.declared.label.Label.{Label}
use Rattle.sat_label.specs.declared.point.Point.{Point}
use Rattle.sat_label.specs.Grouped.{list_of}
use Rattle.sat_label.specs.Members.{In}
use Rattle.sat_bulk.specs.declared.Drained.{Drained}
use Rattle.sat_sites.specs.Interested.{Interested, are_below, is_for, keeps_one, AreBelow}
use Rattle.sat_sites.specs.declared.shape.Shape.{Shape}
use Rattle.sat_sites.proofs.Below.{below_is}
use Rattle.sat_gear.specs.Gear.{IsShape}
use Rattle.sat_sink.specs.Pending.{labels_of}
use Rattle.sat_sink.specs.Sink.{IsDrain}
use Rattle.sat_hub.specs.Seen.{HubSeen, IsGather, IsGiven, IsHub, IsMadeHere}
use Rattle.sat_hub.specs.Inputs.{is_given_here, is_own_here, is_own_kind_here, is_site_here}

-- ---- how many labels

pub given_more : (drained : List Drained) (i : ℕ) (x : Drained) → i < length drained → x ≡ get_or drained i x → length (flat_map labels_of (take (i + 1) drained)) ≡ length (flat_map labels_of (take i drained)) + length x.labels
given_more drained i x lt e =
    let more : flat_map labels_of (take (i + 1) drained) ≡ flat_map labels_of (take i drained) ++ x.labels =
    ap (λ (xs : List Drained). flat_map labels_of xs) (take_more drained i x lt) ∙ (flat_map-append labels_of (take i drained) (get_or drained i x ∷ []) ∙
    (ap (λ (y : Drained). flat_map labels_of (take i drained) ++ (y.labels ++ [])) (sym e) ∙ ap (λ (ls : List Label). flat_map labels_of (take i drained) ++ ls) (append-nil x.labels))) in
    ap (λ (ls : List Label). length ls) more ∙ length-append (flat_map labels_of (take i drained)) x.labels

pub too-many : (drained : List Drained) (i : ℕ) (x : Drained) (count : ℕ) (ls : List Label) → i < length drained → x ≡ get_or drained i x → count ≡ length (flat_map labels_of (take i drained)) → ls ≡ x.labels → (count + length ls < 2 ^ 64 → ⊥) → 2 ^ 64 ≤ length (flat_map labels_of drained)
too-many drained i x count ls lt e f g h =
    let w : length (flat_map labels_of (take i drained)) + length (get_or drained i x).labels ≤ length (flat_map labels_of drained) = length-flat_map-take labels_of drained i x lt in
    let k : length ls ≡ length (get_or drained i x).labels = ap (λ (ls : List Label). length ls) (g ∙ ap (λ (y : Drained). y.labels) e) in
    sum count (length ls) _ _ _ f k w h
  where
    sum : (a b c d n : ℕ) → a ≡ c → b ≡ d → c + d ≤ n → (a + b < 2 ^ 64 → ⊥) → 2 ^ 64 ≤ n
    sum a b c d n e f g h = omega arith

-- ---- whose labels

-- an update is not for its own site
away-from : (a : Interested) (p : Point) (items : Items) (k : ℕ) → p.site ≡ k → is_for a (record { point = p; kind = Update items }) k ≡ false
unfolding is_for
away-from a p items k own = go (keeps_one a (list_of items) k) (k == p.site) (eq-eqb k p.site (sym own))
  where
    go : (b c : Bool) → c ≡ true → (b && not c) ≡ false
    go true c e = ap not e
    go false c e = refl

-- a move to another site is not for its own
moves-away : (a : Interested) (p : Point) (j k : ℕ) → (j ≡ k → ⊥) → is_for a (record { point = p; kind = Move j }) k ≡ false
unfolding is_for
moves-away a p j k other = ne_eqb k j (λ e. other (sym e))

moves-to : (a : Interested) (p : Point) (j k : ℕ) → is_for a (record { point = p; kind = Move j }) k ≡ false → j ≡ k → ⊥
unfolding is_for
moves-to a p j k away same = let clash : true ≡ false = sym (eq-eqb k j (sym same)) ∙ away in cc

below-are : (n : ℕ) (xs : List ℕ) → AreBelow n xs → are_below n xs ≡ true
below-are n [] k = refl
below-are n (x ∷ xs) k = let e : nat_lt x n ≡ true = grind (arith, nat_tests, k.0) in λ j. e j && below-are n xs k.1 j

made-kind : (shape : Shape) (p : Point) (kind : Kind) → IsShape shape → p.site ≡ shape.site → is_own_kind_here shape kind ≡ true → IsMadeHere shape (record { point = p; kind = kind })
made-kind shape p (Update items) k own e = record { site = own; kind = below_is (length shape.interest.replicas) (list_of items) e; made = refl; away = away-from shape.interest p items shape.site own }
made-kind shape p (Move j) k own e =
    let w = and_parts (is_site_here shape j) (not (j == shape.site)) e in
    record {
      site = own;
      kind = subst (λ (n : ℕ). j < n) (sym k.sites) (ltb-true j shape.sites w.0);
      made = refl;
      away = moves-away shape.interest p j shape.site (eqb-false j shape.site (not-true (j == shape.site) w.1));
    }
made-kind shape p Pulse k own e = absurd (cc)
made-kind shape p (Close n) k own e = absurd (cc)

kind-made : (shape : Shape) (p : Point) (kind : Kind) → IsShape shape → IsMadeHere shape (record { point = p; kind = kind }) → is_own_kind_here shape kind ≡ true
kind-made shape p (Update items) k made = below-are (length shape.interest.replicas) (list_of items) made.kind
kind-made shape p (Move j) k made =
    let low : j < shape.sites = subst (λ (n : ℕ). j < n) k.sites made.kind in
    let here : nat_lt j shape.sites ≡ true = grind (arith, nat_tests, low) in
    let other : (j == shape.site) ≡ false = ne_eqb j shape.site (moves-to shape.interest p j shape.site made.away) in
    λ i. here i && not (other i)
kind-made shape p Pulse k made = absurd (let e : false ≡ true = made.made in cc)
kind-made shape p (Close n) k made = absurd (let e : false ≡ true = made.made in cc)

own-is : (shape : Shape) (l : Label) → IsShape shape → is_own_here shape l ≡ true → IsMadeHere shape l
own-is shape l k e =
    let w = and_parts (l.point.site == shape.site) (is_own_kind_here shape l.kind) e in
    made-kind shape l.point l.kind k (eqb-true l.point.site shape.site w.0) w.1

is-own : (shape : Shape) (l : Label) → IsShape shape → IsMadeHere shape l → is_own_here shape l ≡ true
is-own shape l k made = λ j. eq-eqb l.point.site shape.site made.site j && kind-made shape l.point l.kind k made j

-- ---- what a gear gave

all-own : (shape : Shape) (ls : List Label) → IsShape shape → list_all (is_own_here shape) ls ≡ true → (l : Label) → In ls l → IsMadeHere shape l
all-own shape [] k e l i = absurd i
all-own shape (m ∷ ls) k e l (inl same) = subst (IsMadeHere shape) same (own-is shape m k (and_parts (is_own_here shape m) (list_all (is_own_here shape) ls) e).0)
all-own shape (m ∷ ls) k e l (inr i) = all-own shape ls k (and_parts (is_own_here shape m) (list_all (is_own_here shape) ls) e).1 l i

own-all : (shape : Shape) (ls : List Label) → IsShape shape → ((l : Label) → In ls l → IsMadeHere shape l) → list_all (is_own_here shape) ls ≡ true
own-all shape [] k f = refl
own-all shape (m ∷ ls) k f = λ j. is-own shape m k (f m (inl refl)) j && own-all shape ls k (λ l i. f l (inr i)) j

given-is : (shape : Shape) (d : Drained) → IsShape shape → is_given_here shape d ≡ true → IsGiven shape d
given-is shape d k e =
    let w = and_parts (list_all (is_own_here shape) d.labels) (length d.counts == shape.sites) e in
    record { labels = all-own shape d.labels k w.0; counts = eqb-true (length d.counts) shape.sites w.1 }

is-given : (shape : Shape) (d : Drained) → IsShape shape → IsGiven shape d → is_given_here shape d ≡ true
is-given shape d k g = λ j. own-all shape d.labels k g.labels j && eq-eqb (length d.counts) shape.sites g.counts j

all-given : (shape : Shape) (drained : List Drained) → IsShape shape → list_all (is_given_here shape) drained ≡ true → (g : ℕ) (d : Drained) → slice_get drained g ≡ Some d → IsGiven shape d
all-given shape [] k e g d at = absurd (cc)
all-given shape (x ∷ drained) k e zero d at = let same : x ≡ d = cc in subst (IsGiven shape) same (given-is shape x k (and_parts (is_given_here shape x) (list_all (is_given_here shape) drained) e).0)
all-given shape (x ∷ drained) k e (suc g) d at = all-given shape drained k (and_parts (is_given_here shape x) (list_all (is_given_here shape) drained) e).1 g d at

given-all : (shape : Shape) (drained : List Drained) → IsShape shape → ((g : ℕ) (d : Drained) → slice_get drained g ≡ Some d → IsGiven shape d) → list_all (is_given_here shape) drained ≡ true
given-all shape [] k f = refl
given-all shape (x ∷ drained) k f = λ j. is-given shape x k (f 0 x refl) j && given-all shape drained k (λ g. f (suc g)) j

-- by what the code tested: whether the sink may take it, and whether each gear may have given it
pub may-gather : (w x : HubSeen) (drained : List Drained) (r : Bool) → w ≡ x → IsHub w → Decides true (IsDrain w.sink drained) → r ≡ list_all (is_given_here w.shape) drained → Decides r (IsGather x drained)
may-gather w x drained r same k sink given = subst (λ (y : HubSeen). Decides r (IsGather y drained)) same (
  λ e. record { drain = sink.0 refl; given = all-given w.shape drained k.shape (sym given ∙ e) },
  λ g. given ∙ given-all w.shape drained k.shape g.given,
)

pub may-not : (w x : HubSeen) (drained : List Drained) → w ≡ x → Decides false (IsDrain w.sink drained) → Decides false (IsGather x drained)
may-not w x drained same sink = subst (λ (y : HubSeen). Decides false (IsGather y drained)) same (λ e. absurd (cc), λ g. sink.1 g.drain)
