-- Laws of the order of points and labels.
use Rattle.std.specs.Prelude.{◌≡◌, ◌⊎◌, ◌<◌, ◌≤◌, ◌-◌, ℕ, Bool, true, false, ◌&&◌, ◌||◌, ◌==◌, nat_lt, List, [], ◌∷◌, if◌then◌else◌, refl}
use Rattle.std.proofs.Common.{arith, inl, inr, ap}
use Rattle.std.proofs.lemmas.Bool.{and_left, and_parts, eqb-true, false_from_ne_true, or_cases, or_left, or_parts}
use Rattle.std.proofs.lemmas.Bool.Decides.{nat_tests}
use Rattle.sat_label.specs.declared.point.Point.{Point}
use Rattle.sat_label.specs.declared.label.Kind.{Kind}
use Rattle.sat_label.specs.declared.label.Kind.TheVariants.{Update, Move, Pulse, Close}
use Rattle.sat_label.specs.declared.label.Label.{Label}
use Rattle.sat_label.specs.Grouped.{list_of}
use Rattle.sat_label.proofs.Grouped.{items-are}
use Rattle.sat_label.specs.Order.{mark, point_lt, point_eq, point_le, greater_point, kind_lt, kind_eq, kind_rank, kind_numbers, numbers_lt, numbers_eq, label_lt, label_eq}

join_right : (a b c : Bool) → b ≡ true → c ≡ true → (a || (b && c)) ≡ true
join_right true b c e f = refl
join_right false true true e f = refl
join_right false _ _ e f = absurd (cc)

second_false : (a b : Bool) → a ≡ true → (a && b) ≡ false → b ≡ false
second_false true b e f = f
second_false false b e f = absurd (cc)

-- ---- points

pub point_lt-trans : (p q r : Point) → point_lt p q ≡ true → point_lt q r ≡ true → point_lt p r ≡ true
point_lt-trans p q r a b = grind (arith, nat_tests)

pub point_le-self : (p : Point) → point_le p p ≡ true
point_le-self p = grind (arith, nat_tests)

pub point_le-trans : (p q r : Point) → point_le p q ≡ true → point_le q r ≡ true → point_le p r ≡ true
point_le-trans p q r a b = grind (arith, nat_tests)

pub point_le_lt-trans : (p q r : Point) → point_le p q ≡ true → point_lt q r ≡ true → point_lt p r ≡ true
point_le_lt-trans p q r a b = grind (arith, nat_tests)

pub point_lt-le : (p q : Point) → point_lt p q ≡ true → point_le p q ≡ true
point_lt-le p q h = or_left (point_lt p q) (point_eq p q) h

pub point_lt-total : (p q : Point) → (point_le p q ≡ true) ⊎ (point_lt q p ≡ true)
point_lt-total p q = grind (arith, nat_tests)

pub point_le_lt-absurd : (p q : Point) → point_le p q ≡ true → point_lt q p ≡ true → ⊥
point_le_lt-absurd p q a b = grind (arith, nat_tests)

pub mark-ts : (p : Point) (t i : ℕ) → point_le p (mark t i) ≡ true → p.ts ≤ t
mark-ts p t i h = grind (arith, nat_tests)

pub ts-lt : (p q : Point) → p.ts < q.ts → point_lt p q ≡ true
ts-lt p q h = grind (arith, nat_tests)

pub lt-ts : (p q : Point) → point_lt p q ≡ true → p.ts ≤ q.ts
lt-ts p q h = grind (arith, nat_tests)

pub le-mark : (p : Point) (t i : ℕ) → p.ts ≤ t → p.site ≡ i → p.gear < 65536 → point_le p (mark t i) ≡ true
le-mark p t i h e g = grind (arith, nat_tests)

pub marks-le : (t u i : ℕ) → t ≤ u → point_le (mark t i) (mark u i) ≡ true
marks-le t u i h = grind (arith, nat_tests)

pub mark-lt : (t i : ℕ) (p : Point) → t < p.ts → point_lt (mark t i) p ≡ true
mark-lt t i p h = grind (arith, nat_tests)

pub apart : (p q : Point) → point_lt p q ≡ false → (p.gear ≡ q.gear → ⊥) → point_lt q p ≡ true
apart p q h ne = grind (arith, nat_tests)

pub lt-not_eq : (p q : Point) → point_lt p q ≡ true → point_eq p q ≡ false
lt-not_eq p q h = grind (arith, nat_tests)

pub gears-not_eq : (p q : Point) → (p.gear ≡ q.gear → ⊥) → point_eq p q ≡ false
gears-not_eq p q ne = grind (arith, nat_tests)

pub le-greater_left : (p q : Point) → point_le p (greater_point p q) ≡ true
le-greater_left p q = grind (arith, nat_tests)

pub le-greater_right : (p q : Point) → point_le q (greater_point p q) ≡ true
le-greater_right p q = grind (arith, nat_tests)

chosen : (P : Point → Type 0) (p q : Point) (b : Bool) → P p → P q → P (if b then q else p)
chosen P p q true a b = b
chosen P p q false a b = a

-- what holds of both of two points holds of the greater
pub of-greater : (P : Point → Type 0) (p q : Point) → P p → P q → P (greater_point p q)
of-greater P p q a b = chosen P p q (point_lt p q) a b

-- ---- labels

lt-eq : (p q r : Point) → point_lt p q ≡ true → point_eq q r ≡ true → point_lt p r ≡ true
lt-eq p q r a b = grind (arith, nat_tests)

eq-lt : (p q r : Point) → point_eq p q ≡ true → point_lt q r ≡ true → point_lt p r ≡ true
eq-lt p q r a b = grind (arith, nat_tests)

eq-eq : (p q r : Point) → point_eq p q ≡ true → point_eq q r ≡ true → point_eq p r ≡ true
eq-eq p q r a b = grind (arith, nat_tests)

pub pairs-trans : (a b c : ℕ) (p q r : Bool) → (p ≡ true → q ≡ true → r ≡ true) → (nat_lt a b || ((a == b) && p)) ≡ true → (nat_lt b c || ((b == c) && q)) ≡ true → (nat_lt a c || ((a == c) && r)) ≡ true
pairs-trans a b c true true r f s t = let k : r ≡ true = f refl refl in grind (arith, nat_tests)
pairs-trans a b c true false r f s t = grind (arith, nat_tests)
pairs-trans a b c false true r f s t = grind (arith, nat_tests)
pairs-trans a b c false false r f s t = grind (arith, nat_tests)

pub pairs-chain : (a b c : ℕ) (p q r : Bool) → (p ≡ false → q ≡ false → r ≡ false) → (nat_lt a b || ((a == b) && p)) ≡ false → (nat_lt b c || ((b == c) && q)) ≡ false → (nat_lt a c || ((a == c) && r)) ≡ false
pairs-chain a b c false false r f s t = let k : r ≡ false = f refl refl in grind (arith, nat_tests)
pairs-chain a b c true false r f s t = grind (arith, nat_tests)
pairs-chain a b c false true r f s t = grind (arith, nat_tests)
pairs-chain a b c true true r f s t = grind (arith, nat_tests)

-- ---- lists of numbers

pub numbers_lt-trans : (xs ys zs : List ℕ) → numbers_lt xs ys ≡ true → numbers_lt ys zs ≡ true → numbers_lt xs zs ≡ true
numbers_lt-trans [] [] zs a b = absurd (cc)
numbers_lt-trans [] (y ∷ ys) [] a b = absurd (cc)
numbers_lt-trans [] (y ∷ ys) (z ∷ zs) a b = refl
numbers_lt-trans (x ∷ xs) [] zs a b = absurd (cc)
numbers_lt-trans (x ∷ xs) (y ∷ ys) [] a b = absurd (cc)
numbers_lt-trans (x ∷ xs) (y ∷ ys) (z ∷ zs) a b = pairs-trans x y z (numbers_lt xs ys) (numbers_lt ys zs) (numbers_lt xs zs) (numbers_lt-trans xs ys zs) a b

pub numbers_lt-chain : (xs ys zs : List ℕ) → numbers_lt xs ys ≡ false → numbers_lt ys zs ≡ false → numbers_lt xs zs ≡ false
numbers_lt-chain [] [] [] a b = refl
numbers_lt-chain [] [] (z ∷ zs) a b = absurd (cc)
numbers_lt-chain [] (y ∷ ys) zs a b = absurd (cc)
numbers_lt-chain (x ∷ xs) [] [] a b = refl
numbers_lt-chain (x ∷ xs) [] (z ∷ zs) a b = absurd (cc)
numbers_lt-chain (x ∷ xs) (y ∷ ys) [] a b = refl
numbers_lt-chain (x ∷ xs) (y ∷ ys) (z ∷ zs) a b = pairs-chain x y z (numbers_lt xs ys) (numbers_lt ys zs) (numbers_lt xs zs) (numbers_lt-chain xs ys zs) a b

-- of two lists that neither comes before the other
same-head : (a b : ℕ) (p q : Bool) → (nat_lt a b || ((a == b) && p)) ≡ false → (nat_lt b a || ((b == a) && q)) ≡ false → ((a == b) ≡ true) × (p ≡ false) × (q ≡ false)
same-head a b p q s t = (grind (arith, nat_tests), grind (arith, nat_tests), grind (arith, nat_tests))

both-hold : (a b : Bool) → a ≡ true → b ≡ true → (a && b) ≡ true
both-hold true true e f = refl
both-hold true false e f = absurd (cc)
both-hold false b e f = absurd (cc)

pub numbers-connex : (xs ys : List ℕ) → numbers_lt xs ys ≡ false → numbers_lt ys xs ≡ false → numbers_eq xs ys ≡ true
numbers-connex [] [] a b = refl
numbers-connex [] (y ∷ ys) a b = absurd (cc)
numbers-connex (x ∷ xs) [] a b = absurd (cc)
numbers-connex (x ∷ xs) (y ∷ ys) a b =
    let w : ((x == y) ≡ true) × (numbers_lt xs ys ≡ false) × (numbers_lt ys xs ≡ false) = same-head x y (numbers_lt xs ys) (numbers_lt ys xs) a b in
    both-hold (x == y) (numbers_eq xs ys) w.0 (numbers-connex xs ys w.1 w.2)

pub numbers_eq-self : (xs : List ℕ) → numbers_eq xs xs ≡ true
numbers_eq-self [] = refl
numbers_eq-self (x ∷ xs) = both-hold (x == x) (numbers_eq xs xs) (same x) (numbers_eq-self xs)
  where
    same : (n : ℕ) → (n == n) ≡ true
    same n = grind (arith, nat_tests)

self-head : (n : ℕ) (p : Bool) → p ≡ false → (nat_lt n n || ((n == n) && p)) ≡ false
self-head n p e = grind (arith, nat_tests)

pub numbers_lt-self : (xs : List ℕ) → numbers_lt xs xs ≡ false
numbers_lt-self [] = refl
numbers_lt-self (x ∷ xs) = self-head x (numbers_lt xs xs) (numbers_lt-self xs)

pub numbers-is : (xs ys : List ℕ) → numbers_eq xs ys ≡ true → xs ≡ ys
numbers-is [] [] e = refl
numbers-is [] (y ∷ ys) e = absurd (cc)
numbers-is (x ∷ xs) [] e = absurd (cc)
numbers-is (x ∷ xs) (y ∷ ys) e =
    let w : ((x == y) ≡ true) × (numbers_eq xs ys ≡ true) = and_parts _ _ e in
    let a : x ≡ y = eqb-true x y w.0 in
    let b : xs ≡ ys = numbers-is xs ys w.1 in
    λ i. a i ∷ b i

pub kind_lt-trans : (a b c : Kind) → kind_lt a b ≡ true → kind_lt b c ≡ true → kind_lt a c ≡ true
kind_lt-trans a b c p q =
    pairs-trans (kind_rank a) (kind_rank b) (kind_rank c) _ _ _ (numbers_lt-trans (kind_numbers a) (kind_numbers b) (kind_numbers c)) p q

pub kind_lt-chain : (a b c : Kind) → kind_lt a b ≡ false → kind_lt b c ≡ false → kind_lt a c ≡ false
kind_lt-chain a b c p q =
    pairs-chain (kind_rank a) (kind_rank b) (kind_rank c) _ _ _ (numbers_lt-chain (kind_numbers a) (kind_numbers b) (kind_numbers c)) p q

-- two kinds of which neither comes before the other are one
pub kinds-connex : (a b : Kind) → kind_lt a b ≡ false → kind_lt b a ≡ false → kind_eq a b ≡ true
kinds-connex a b p q =
    let w : ((kind_rank a == kind_rank b) ≡ true) × (numbers_lt (kind_numbers a) (kind_numbers b) ≡ false) × (numbers_lt (kind_numbers b) (kind_numbers a) ≡ false) =
    same-head (kind_rank a) (kind_rank b) _ _ p q in
    both-hold _ _ w.0 (numbers-connex (kind_numbers a) (kind_numbers b) w.1 w.2)

pub label_lt-trans : (a b c : Label) → label_lt a b ≡ true → label_lt b c ≡ true → label_lt a c ≡ true
label_lt-trans a b c p q =
    elim (or_cases (point_lt a.point b.point) _ p) [
      | inl x ↦ elim (or_cases (point_lt b.point c.point) _ q) [
        | inl y ↦ or_left (point_lt a.point c.point) _ (point_lt-trans a.point b.point c.point x y)
        | inr y ↦ or_left (point_lt a.point c.point) _ (lt-eq a.point b.point c.point x (and_parts _ _ y).0)
      ]
      | inr x ↦ elim (or_cases (point_lt b.point c.point) _ q) [
        | inl y ↦ or_left (point_lt a.point c.point) _ (eq-lt a.point b.point c.point (and_parts _ _ x).0 y)
        | inr y ↦ join_right (point_lt a.point c.point) (point_eq a.point c.point) (kind_lt a.kind c.kind) (eq-eq a.point b.point c.point (and_parts _ _ x).0 (and_parts _ _ y).0)
            (kind_lt-trans a.kind b.kind c.kind (and_parts _ _ x).1 (and_parts _ _ y).1)
      ]
    ]

points-chain : (p q r : Point) → point_lt p q ≡ false → point_lt q r ≡ false → point_lt p r ≡ false
points-chain p q r a b = grind (arith, nat_tests)

points-between : (p q r : Point) → point_lt p q ≡ false → point_lt q r ≡ false → point_eq p r ≡ true → (point_eq p q ≡ true) × (point_eq q r ≡ true)
points-between p q r a b e = (grind (arith, nat_tests), grind (arith, nat_tests))

pub label_lt-chain : (a b c : Label) → label_lt a b ≡ false → label_lt b c ≡ false → label_lt a c ≡ false
label_lt-chain a b c p q =
    let x : (point_lt a.point b.point ≡ false) × ((point_eq a.point b.point && kind_lt a.kind b.kind) ≡ false) = or_parts _ _ p in
    let y : (point_lt b.point c.point ≡ false) × ((point_eq b.point c.point && kind_lt b.kind c.kind) ≡ false) = or_parts _ _ q in
    false_from_ne_true (label_lt a c) (λ t. elim (or_cases (point_lt a.point c.point) _ t) [
      | inl w ↦ (let v : point_lt a.point c.point ≡ false = points-chain a.point b.point c.point x.0 y.0 in cc)
      | inr w ↦
          let e : (point_eq a.point c.point ≡ true) × (kind_lt a.kind c.kind ≡ true) = and_parts _ _ w in
          let z : (point_eq a.point b.point ≡ true) × (point_eq b.point c.point ≡ true) = points-between a.point b.point c.point x.0 y.0 e.0 in
          let v : kind_lt a.kind c.kind ≡ false = kind_lt-chain a.kind b.kind c.kind (second_false _ _ z.0 x.1) (second_false _ _ z.1 y.1) in
          (cc)
    ])

-- labels are as their points, where these differ
pub labels-lt : (a b : Label) → point_lt a.point b.point ≡ true → label_lt a b ≡ true
labels-lt a b h = or_left (point_lt a.point b.point) _ h

pub points-not_lt : (a b : Label) → label_lt a b ≡ false → point_lt a.point b.point ≡ false
points-not_lt a b h = (or_parts (point_lt a.point b.point) _ h).0

pub labels-differ : (a b : Label) → point_eq a.point b.point ≡ false → label_eq a b ≡ false
labels-differ a b h = and_left (point_eq a.point b.point) (kind_eq a.kind b.kind) h

number-self : (n : ℕ) → (n == n) ≡ true
number-self n = grind (arith, nat_tests)

point_eq-self : (p : Point) → point_eq p p ≡ true
point_eq-self p = grind (arith, nat_tests)

self-point : (p : Point) (b : Bool) → b ≡ false → (point_lt p p || (point_eq p p && b)) ≡ false
self-point p b e = grind (arith, nat_tests)

pub label_eq-self : (l : Label) → label_eq l l ≡ true
label_eq-self l = both-hold _ _ (point_eq-self l.point) (both-hold _ _ (number-self (kind_rank l.kind)) (numbers_eq-self (kind_numbers l.kind)))

pub label_lt-self : (l : Label) → label_lt l l ≡ false
label_lt-self l = self-point l.point (kind_lt l.kind l.kind) (self-head (kind_rank l.kind) _ (numbers_lt-self (kind_numbers l.kind)))

-- ---- tests of equality

kind-is : (a b : Kind) → kind_eq a b ≡ true → a ≡ b
kind-is (Update xs) (Update ys) e = ap Update (items-are xs ys (numbers-is (list_of xs) (list_of ys) e))
kind-is (Move x) (Move y) e = ap Move (grind (arith, nat_tests))
kind-is Pulse Pulse e = refl
kind-is (Close x) (Close y) e = ap Close (grind (arith, nat_tests))
kind-is _ _ e = absurd (cc)

points-is : (p q : Point) → p.ts ≡ q.ts → p.site ≡ q.site → p.gear ≡ q.gear → p ≡ q
points-is p q a b c = λ i. record { ts = a i; site = b i; gear = c i }

labels-is : (l m : Label) → l.point ≡ m.point → l.kind ≡ m.kind → l ≡ m
labels-is l m a b = λ i. record { point = a i; kind = b i }

pub same-point : (p q : Point) → point_eq p q ≡ true → p ≡ q
same-point p q e =
    let a : ((p.ts == q.ts) ≡ true) × (((p.site == q.site) && (p.gear == q.gear)) ≡ true) = and_parts _ _ e in
    let b : ((p.site == q.site) ≡ true) × ((p.gear == q.gear) ≡ true) = and_parts _ _ a.1 in
    points-is p q (eqb-true _ _ a.0) (eqb-true _ _ b.0) (eqb-true _ _ b.1)

pub same-label : (l m : Label) → label_eq l m ≡ true → l ≡ m
same-label l m e =
    let p : (point_eq l.point m.point ≡ true) × (kind_eq l.kind m.kind ≡ true) = and_parts _ _ e in
    labels-is l m (same-point l.point m.point p.0) (kind-is l.kind m.kind p.1)
