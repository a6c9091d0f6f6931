-- The derived order and test of labels are those of the definitions.
use Rattle.std.specs.Prelude.{ℕ, ◌≡◌, Bool, true, false, ◌||◌, ◌&&◌, ◌==◌, nat_lt, nat_eq, List, [], ◌∷◌, refl, cond, Option, Some}
use Rattle.std.proofs.Common.{ap, ◌∙◌}
use Rattle.std.specs.Ordering.{is_lt, is_some_and, nat_cmp, ordering_then, partial_ordering_then}
use Rattle.std.specs.declared.cmp.Ordering.{Ordering}
use Rattle.std.specs.declared.cmp.Ordering.TheVariants.{Less, Equal, Greater}
use Rattle.std.specs.Cmp.Lexicographic.{pointwise, slice_cmp}
use Rattle.sat_label.specs.declared.point.Point.{Point}
use Rattle.sat_label.specs.declared.label.Label.{Label}
use Rattle.sat_label.specs.declared.label.Kind.{Kind}
use Rattle.sat_label.specs.declared.label.Kind.TheVariants.{Update, Move, Pulse, Close}
use Rattle.sat_label.specs.Grouped.{list_of}
use Rattle.sat_label.specs.Order.{kind_lt, kind_eq, label_lt, label_eq, numbers_lt, numbers_eq, point_lt, point_eq}
use Rattle.sat_label.specs.contracts.label.KindPartialOrd.TheImpl as order
use Rattle.sat_label.specs.contracts.label.KindPartialEq.TheImpl as test
use Rattle.sat_label.specs.contracts.label.LabelPartialOrd.TheImpl as labels_order
use Rattle.sat_label.specs.contracts.label.LabelPartialEq.TheImpl as labels_test

items-eq : (xs ys : List ℕ) → pointwise nat_eq xs ys ≡ numbers_eq xs ys
items-eq [] [] = refl
items-eq [] (y ∷ ys) = refl
items-eq (x ∷ xs) [] = refl
items-eq (x ∷ xs) (y ∷ ys) = ap (λ (b : Bool). (x == y) && b) (items-eq xs ys)

and-true : (b : Bool) → b ≡ (b && true)
and-true true = refl
and-true false = refl

kinds-eq : (a b : Kind) → (test.ghosts).eq a b ≡ kind_eq a b
kinds-eq (Update xs) (Update ys) = items-eq (list_of xs) (list_of ys)
kinds-eq (Update xs) (Move j) = refl
kinds-eq (Update xs) Pulse = refl
kinds-eq (Update xs) (Close e) = refl
kinds-eq (Move i) (Update ys) = refl
kinds-eq (Move i) (Move j) = and-true (i == j)
kinds-eq (Move i) Pulse = refl
kinds-eq (Move i) (Close e) = refl
kinds-eq Pulse (Update ys) = refl
kinds-eq Pulse (Move j) = refl
kinds-eq Pulse Pulse = refl
kinds-eq Pulse (Close e) = refl
kinds-eq (Close e) (Update ys) = refl
kinds-eq (Close e) (Move j) = refl
kinds-eq (Close e) Pulse = refl
kinds-eq (Close e) (Close f) = and-true (e == f)

heads-lt : (x y : ℕ) (o : Ordering) → is_lt (ordering_then (nat_cmp x y) o) ≡ (nat_lt x y || ((x == y) && is_lt o))
heads-lt x y o = go (nat_lt x y) (x == y)
  where
    go : (b c : Bool) → is_lt (ordering_then (cond b Less (cond c Equal Greater)) o) ≡ (b || (c && is_lt o))
    go true c = refl
    go false true = refl
    go false false = refl

items-lt : (xs ys : List ℕ) → is_lt (slice_cmp nat_cmp xs ys) ≡ numbers_lt xs ys
items-lt [] [] = refl
items-lt [] (y ∷ ys) = refl
items-lt (x ∷ xs) [] = refl
items-lt (x ∷ xs) (y ∷ ys) = heads-lt x y (slice_cmp nat_cmp xs ys) ∙ ap (λ (b : Bool). nat_lt x y || ((x == y) && b)) (items-lt xs ys)

one-lt : (x y : ℕ) → is_lt (nat_cmp x y) ≡ (nat_lt x y || ((x == y) && false))
one-lt x y = go (nat_lt x y) (x == y)
  where
    go : (b c : Bool) → is_lt (cond b Less (cond c Equal Greater)) ≡ (b || (c && false))
    go true c = refl
    go false true = refl
    go false false = refl

kinds-lt : (a b : Kind) → is_some_and is_lt ((order.ghosts).partial_cmp a b) ≡ kind_lt a b
kinds-lt (Update xs) (Update ys) = items-lt (list_of xs) (list_of ys)
kinds-lt (Update xs) (Move j) = refl
kinds-lt (Update xs) Pulse = refl
kinds-lt (Update xs) (Close e) = refl
kinds-lt (Move i) (Update ys) = refl
kinds-lt (Move i) (Move j) = one-lt i j
kinds-lt (Move i) Pulse = refl
kinds-lt (Move i) (Close e) = refl
kinds-lt Pulse (Update ys) = refl
kinds-lt Pulse (Move j) = refl
kinds-lt Pulse Pulse = refl
kinds-lt Pulse (Close e) = refl
kinds-lt (Close e) (Update ys) = refl
kinds-lt (Close e) (Move j) = refl
kinds-lt (Close e) Pulse = refl
kinds-lt (Close e) (Close f) = one-lt e f

pub labels-eq : (a b : Label) → (labels_test.ghosts).eq a b ≡ label_eq a b
labels-eq a b = ap (λ (c : Bool). point_eq a.point b.point && c) (kinds-eq a.kind b.kind)

points-then : (p q : Point) (o : Option Ordering) →
    is_some_and is_lt (partial_ordering_then (partial_ordering_then (Some (nat_cmp p.ts q.ts)) (partial_ordering_then (Some (nat_cmp p.site q.site)) (Some (nat_cmp p.gear q.gear)))) o) ≡ (point_lt p q || (point_eq p q && is_some_and is_lt o))
points-then p q o = go (nat_lt p.ts q.ts) (p.ts == q.ts) (nat_lt p.site q.site) (p.site == q.site) (nat_lt p.gear q.gear) (p.gear == q.gear)
  where
    go : (a b c d e f : Bool) →
        is_some_and is_lt (partial_ordering_then (partial_ordering_then (Some (cond a Less (cond b Equal Greater))) (partial_ordering_then (Some (cond c Less (cond d Equal Greater))) (Some (cond e Less (cond f Equal Greater))))) o)
        ≡ ((a || (b && (c || (d && e)))) || ((b && (d && f)) && is_some_and is_lt o))
    go true b c d e f = refl
    go false false c d e f = refl
    go false true true d e f = refl
    go false true false false e f = refl
    go false true false true true f = refl
    go false true false true false false = refl
    go false true false true false true = refl

pub labels-lt : (a b : Label) → is_some_and is_lt ((labels_order.ghosts).partial_cmp a b) ≡ label_lt a b
labels-lt a b =
    points-then a.point b.point ((order.ghosts).partial_cmp a.kind b.kind)
    ∙ ap (λ (c : Bool). point_lt a.point b.point || (point_eq a.point b.point && c)) (kinds-lt a.kind b.kind)
