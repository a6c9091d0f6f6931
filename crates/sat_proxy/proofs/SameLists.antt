-- Tests of lists that have the same members.
use Rattle.std.specs.Prelude.{◌≡◌, ◌≢◌, ◌<◌, ℕ, zero, suc, Bool, true, false, ◌||◌, ◌&&◌, List, [], ◌∷◌, ◌++◌, map, get_or, ◌==◌, Option, Some, None, refl}
use Rattle.std.specs.List.{list_all, list_any}
use Rattle.std.proofs.Common.{arith, sym, ◌∙◌, ap, inl, inr}
use Rattle.std.proofs.lemmas.Bool.{and_from, and_parts, eqb-false, or_cases, or_left, or_parts, or_right}
use Rattle.std.proofs.lemmas.Option.{get_or_from_slice_get}
use Rattle.sat_label.specs.declared.label.Label.{Label}
use Rattle.sat_label.specs.Order.{label_eq, label_lt, point_lt, point_eq}
use Rattle.sat_label.specs.Least.{least_label}
use Rattle.sat_label.specs.Members.{In}
use Rattle.sat_label.specs.Words.{below, has}
use Rattle.sat_label.proofs.Least.{IsLeast, least-is, none-passes}
use Rattle.sat_label.proofs.Members.{has-in, in-has}
use Rattle.sat_label.proofs.Numbers.{below-get, get-map}
use Rattle.sat_label.proofs.Orders.{kinds-connex, same-label}
use Rattle.sat_label.proofs.Truth.{same-test}
use Rattle.std.proofs.lemmas.Bool.Decides.{nat_tests}
use Rattle.sat_proxy.specs.Asks.{others}

-- ---- the numbers below one

all-append : {X : Type 0} (test : X → Bool) (xs ys : List X) → list_all test (xs ++ ys) ≡ (list_all test xs && list_all test ys)
all-append test [] ys = refl
all-append test (x ∷ xs) ys = ap (λ (b : Bool). test x && b) (all-append test xs ys) ∙ assoc (test x) (list_all test xs) (list_all test ys)
  where
    assoc : (a b c : Bool) → (a && (b && c)) ≡ ((a && b) && c)
    assoc true b c = refl
    assoc false b c = refl

up : (i n : ℕ) → i < n → i < suc n
up i n e = omega arith

last : (n : ℕ) → n < suc n
last n = omega arith

pub all-more : (t u : ℕ → Bool) (n : ℕ) → ((i : ℕ) → i < n → t i ≡ true → u i ≡ true) → list_all t (below n) ≡ true → list_all u (below n) ≡ true
all-more t u zero f e = refl
all-more t u (suc n) f e =
    let k : (list_all t (below n) ≡ true) × ((t n && true) ≡ true) = and_parts _ _ (sym (all-append t (below n) (n ∷ [])) ∙ e) in
    all-append u (below n) (n ∷ []) ∙ and_from _ _ (all-more t u n (λ i lt. f i (up i n lt)) k.0) (and_from _ _ (f n (last n) (and_parts _ _ k.1).0) refl)

pub all-same : (t u : ℕ → Bool) (n : ℕ) → ((i : ℕ) → i < n → t i ≡ u i) → list_all t (below n) ≡ list_all u (below n)
all-same t u n f = same-test (list_all t (below n)) (list_all u (below n)) (all-more t u n (λ i lt e. sym (f i lt) ∙ e)) (all-more u t n (λ i lt e. f i lt ∙ e))

-- the value of each number stands at its place
pub map-below : {X : Type 0} (f : ℕ → X) (n k : ℕ) (d : X) → k < n → get_or (map f (below n)) k d ≡ f k
map-below f n k d lt = get_or_from_slice_get (map f (below n)) k (f k) d (get-map f (below n) k k (below-get n k lt))

-- ---- members

pub any-in : {X : Type 0} (t : X → Bool) (xs : List X) → list_any t xs ≡ true → (x : X) × In xs x × (t x ≡ true)
any-in t [] e = absurd (cc)
any-in t (x ∷ xs) e = elim (or_cases (t x) (list_any t xs) e) [
  | inl w ↦ (x, inl refl, w)
  | inr w ↦ let k = any-in t xs w in (k.0, inr k.1, k.2)
]

pub in-any : {X : Type 0} (t : X → Bool) (xs : List X) (x : X) → In xs x → t x ≡ true → list_any t xs ≡ true
in-any t [] x m e = absurd m
in-any t (y ∷ xs) x (inl w) e = or_left (t y) (list_any t xs) (ap t w ∙ e)
in-any t (y ∷ xs) x (inr m) e = or_right (t y) (list_any t xs) (in-any t xs x m e)

pub any-same : {X : Type 0} (t : X → Bool) (xs ys : List X) → ((x : X) → In xs x → In ys x) → ((x : X) → In ys x → In xs x) → list_any t xs ≡ list_any t ys
any-same t xs ys f g =
    same-test (list_any t xs) (list_any t ys) (λ e. let k = any-in t xs e in in-any t ys k.0 (f k.0 k.1) k.2) (λ e. let k = any-in t ys e in in-any t xs k.0 (g k.0 k.1) k.2)

pub has-same : (xs ys : List Label) (l : Label) → ((x : Label) → In xs x → In ys x) → ((x : Label) → In ys x → In xs x) → has label_eq xs l ≡ has label_eq ys l
has-same xs ys l f g = same-test (has label_eq xs l) (has label_eq ys l) (λ e. in-has ys l (f l (has-in xs l e))) (λ e. in-has xs l (g l (has-in ys l e)))

pub in-map : {X Y : Type 0} (f : X → Y) (xs : List X) (y : Y) → In (map f xs) y → (x : X) × In xs x × (f x ≡ y)
in-map f [] y m = absurd m
in-map f (x ∷ xs) y (inl e) = (x, inl refl, e)
in-map f (x ∷ xs) y (inr m) = let k = in-map f xs y m in (k.0, inr k.1, k.2)

pub map-in : {X Y : Type 0} (f : X → Y) (xs : List X) (x : X) → In xs x → In (map f xs) (f x)
map-in f [] x m = absurd m
map-in f (y ∷ xs) x (inl e) = inl (ap f e)
map-in f (y ∷ xs) x (inr m) = inr (map-in f xs x m)

-- ---- the least label

points-none : (a b : Label) → point_lt a.point b.point ≡ false → point_lt b.point a.point ≡ false → point_eq a.point b.point ≡ true
points-none a b e f = grind (arith, nat_tests)

pub labels-none : (a b : Label) → label_lt a b ≡ false → label_lt b a ≡ false → a ≡ b
labels-none a b e f = same-label a b (and_from _ _ same (kinds-connex a.kind b.kind (second _ _ same (or_parts _ _ e).1) (second _ _ back (or_parts _ _ f).1)))
  where
    second : (a b : Bool) → a ≡ true → (a && b) ≡ false → b ≡ false
    second true b e f = f
    second false b e f = absurd (cc)

    turn : (a b : Label) → point_eq a.point b.point ≡ true → point_eq b.point a.point ≡ true
    turn a b e = grind (arith, nat_tests)

    same : point_eq a.point b.point ≡ true
    same = points-none a b (or_parts _ _ e).0 (or_parts _ _ f).0

    back : point_eq b.point a.point ≡ true
    back = turn a b same

-- the least is the same of two lists with the same members, by tests that agree on these
pub least-same : (p q : Label → Bool) (xs ys : List Label) → ((x : Label) → In xs x → In ys x) → ((x : Label) → In ys x → In xs x) → ((x : Label) → In xs x → p x ≡ q x) → least_label p xs ≡ least_label q ys
least-same p q xs ys f g agree = go (least_label p xs) refl (least_label q ys) refl
  where
    go : (o : Option Label) → least_label p xs ≡ o → (r : Option Label) → least_label q ys ≡ r → o ≡ r
    go None e None w = refl
    go None e (Some m) w =
        let k : IsLeast q ys m = least-is q ys m w in
        absurd (none-passes p xs m e (agree m (g m k.member) ∙ k.passes) (g m k.member))
    go (Some l) e None w =
        let k : IsLeast p xs l = least-is p xs l e in
        absurd (none-passes q ys l w (sym (agree l k.member) ∙ k.passes) (f l k.member))
    go (Some l) e (Some m) w =
        let k : IsLeast p xs l = least-is p xs l e in
        let j : IsLeast q ys m = least-is q ys m w in
        ap Some (labels-none l m (j.lowest l (f l k.member) (sym (agree l k.member) ∙ k.passes)) (k.lowest m (g m j.member) (agree m (g m j.member) ∙ j.passes)))

-- each site but one passes two tests that agree on these
pub others-same : (sites j : ℕ) (t u : ℕ → Bool) → ((k : ℕ) → k < sites → k ≢ j → t k ≡ u k) → others sites j t ≡ others sites j u
others-same sites j t u f = all-same (λ i. (i == j) || t i) (λ i. (i == j) || u i) sites (λ k lt. go k lt (k == j) refl)
  where
    go : (k : ℕ) → k < sites → (b : Bool) → (k == j) ≡ b → (b || t k) ≡ (b || u k)
    go k lt true e = refl
    go k lt false e = f k lt (eqb-false k j e)
