-- What waits of a site in the queues of its gears and beside them.
use Rattle.std.specs.Prelude.{◌≡◌, ◌⊎◌, ◌<◌, ◌≤◌, ◌+◌, ◌&&◌, ℕ, zero, suc, Bool, true, false, not, cond, List, [], ◌∷◌, ◌++◌, length, get_or, set, take, map, Option, Some, None, if◌then◌else◌, refl}
use Rattle.std.specs.Prelude.{is_some, IfNone, IfSome, OnOk, OnErr, OnSome}
use Rattle.std.specs.Option.{option_or}
use Rattle.std.proofs.Common.{arith, sym, ◌∙◌, ap, subst, inl, inr, Result, Ok, Err}
use Rattle.std.proofs.lemmas.Bool.{cases_eq, cases_lt, false_from_ne_true}
use Rattle.std.proofs.lemmas.List.{append-nil, append_assoc, get_or-set_same, get_or-set_other, get_or_default, get_or_past, map-append, take_more}
use Rattle.std.proofs.lemmas.List.Concat.{flat_map-append}
use Rattle.sat_label.specs.declared.point.Point.{Point}
use Rattle.sat_label.specs.declared.label.Label.{Label}
use Rattle.sat_label.specs.Order.{point_lt, point_eq, label_lt}
use Rattle.sat_label.specs.Least.{least_label, lesser}
use Rattle.sat_label.specs.Members.{In}
use Rattle.sat_label.proofs.Least.{least-append, least-is, least-nil, least-none, none-passes}
use Rattle.sat_label.proofs.Members.{In-left, In-right, In-parts}
use Rattle.sat_label.proofs.Orders.{gears-not_eq, labels-lt, lt-not_eq, point_lt-trans, same-point}
use Rattle.sat_bulk.specs.Payloads.{Payload}
use Rattle.sat_pool.specs.Pool.{at_point, labelled, placed, row_after_take_of, row_waiting_of, without}
use Rattle.sat_pool.specs.Rows.{first_label, flat, placed_all, row_view, sets_first, stands_at, stands_below, Ascends, IsKept, IsParts, MayStand, SameQueues}
use Rattle.sat_pool.specs.Places.{AreBelow}
use Rattle.sat_pool.proofs.Firsts.{least-first}
use Rattle.sat_pool.proofs.Keyed.{lt-by, placed-ascends, placed-in, without-ascends, without-none}
use Rattle.sat_pool.proofs.Labels.{found_of}
use Rattle.sat_pool.proofs.Members.{at-in, eq-turned, in-at, in-placed-new, in-row, in-without, none-at, point-self, row-in, without-in, Place}
use Rattle.sat_pool.proofs.Places.{none-there, on-ascends}

abbrev pub every : Label → Bool
every l = true

-- ---- lists that ascend

lt-self : (p : Point) → point_lt p p ≡ true → ⊥
lt-self p e = let z : point_eq p p ≡ false = lt-not_eq p p e in let w : point_eq p p ≡ true = point-self p in cc

lt-both : (p q : Point) → point_lt p q ≡ true → point_lt q p ≡ true → ⊥
lt-both p q a b = lt-self p (point_lt-trans p q p a b)

same-head : (x y : Payload) (xs ys : List Payload) → Ascends (x ∷ xs) → Ascends (y ∷ ys) → In (y ∷ ys) x → In (x ∷ xs) y → x ≡ y
same-head x y xs ys ux uy (inl e) j = sym e
same-head x y xs ys ux uy (inr i) (inl e) = e
same-head x y xs ys ux uy (inr i) (inr j) = absurd (lt-both x.label.point y.label.point (ux.0 y j) (uy.0 x i))

same-tail : (x y z : Payload) (xs ys : List Payload) → Ascends (x ∷ xs) → x ≡ y → In xs z → In (y ∷ ys) z → In ys z
same-tail x y z xs ys ux e i (inr j) = j
same-tail x y z xs ys ux e i (inl a) = absurd (lt-self x.label.point (subst (λ (w : Payload). point_lt x.label.point w.label.point ≡ true) (sym (e ∙ a)) (ux.0 z i)))

-- they are one list where they have the same members
same-list : (xs ys : List Payload) → Ascends xs → Ascends ys → ((x : Payload) → In xs x → In ys x) → ((x : Payload) → In ys x → In xs x) → xs ≡ ys
same-list [] [] ux uy f g = refl
same-list [] (y ∷ ys) ux uy f g = absurd (g y (inl refl))
same-list (x ∷ xs) [] ux uy f g = absurd (f x (inl refl))
same-list (x ∷ xs) (y ∷ ys) ux uy f g =
    let e : x ≡ y = same-head x y xs ys ux uy (f x (inl refl)) (g y (inl refl)) in
    let r : xs ≡ ys = same-list xs ys ux.1 uy.1 (λ z i. same-tail x y z xs ys ux e i (f z (inr i))) (λ z i. same-tail y x z ys xs uy (sym e) i (g z (inr i))) in
    λ i. e i ∷ r i

some-is : (x y : Payload) → Some x ≡ Some y → x ≡ y
some-is x y e = cc

same-in : (ps : List Payload) (x y : Payload) → Ascends ps → In ps x → In ps y → x.label.point ≡ y.label.point → x ≡ y
same-in ps x y up i j e = some-is x y (sym (in-at ps x up i) ∙ (ap (at_point ps) e ∙ in-at ps y up j))

into-placed : (ps : List Payload) (p x : Payload) → In ps x → point_eq x.label.point p.label.point ≡ false → In (placed ps p) x
into-placed [] p x i ne = absurd i
into-placed (q ∷ qs) p x i ne = go (point_lt p.label.point q.label.point) (point_eq p.label.point q.label.point) refl i (λ j. into-placed qs p x j ne)
  where
    go : (t u : Bool) → point_eq p.label.point q.label.point ≡ u → In (q ∷ qs) x → (In qs x → In (placed qs p) x) → In (if t then p ∷ q ∷ qs else (if u then p ∷ qs else q ∷ placed qs p)) x
    go true u w i rest = inr i
    go false true w (inl a) rest = absurd (let z : point_eq x.label.point p.label.point ≡ true = subst (λ (y : Payload). point_eq y.label.point p.label.point ≡ true) a (eq-turned q.label.point p.label.point ∙ w) in cc)
    go false true w (inr j) rest = inr j
    go false false w (inl a) rest = inl a
    go false false w (inr j) rest = inr (rest j)

from-placed : (ps : List Payload) (p x : Payload) → Ascends ps → In (placed ps p) x → (x ≡ p) ⊎ (In ps x × (point_eq x.label.point p.label.point ≡ false))
from-placed ps p x up i = go (point_eq x.label.point p.label.point) refl (placed-in ps p x i)
  where
    go : (b : Bool) → point_eq x.label.point p.label.point ≡ b → (p ≡ x) ⊎ In ps x → (x ≡ p) ⊎ (In ps x × (point_eq x.label.point p.label.point ≡ false))
    go true w k = inl (same-in (placed ps p) x p (placed-ascends ps p up) i (in-placed-new ps p) (same-point x.label.point p.label.point w))
    go false w (inl a) = inl (sym a)
    go false w (inr j) = inr (j, w)

-- ---- what waits

in-all : (ps base : List Payload) (x : Payload) → In (placed_all ps base) x → In ps x ⊎ In base x
in-all [] base x i = inr i
in-all (p ∷ ps) base x i = elim (placed-in (placed_all ps base) p x i) [
  | inl a ↦ inl (inl a)
  | inr b ↦ elim (in-all ps base x b) [ inl c ↦ inl (inr c) | inr d ↦ inr d ]
]

all-ascends : (ps base : List Payload) → Ascends base → Ascends (placed_all ps base)
all-ascends [] base up = up
all-ascends (p ∷ ps) base up = placed-ascends (placed_all ps base) p (all-ascends ps base up)

-- one at its point
record Stands (ps : List Payload) (q : Point) : Type 0 where
  one : Payload
  there : In ps one
  at : one.label.point ≡ q

placed-stands : (ps : List Payload) (p : Payload) (q : Point) → Stands ps q → Stands (placed ps p) q
placed-stands ps p q s = go (point_eq s.one.label.point p.label.point) refl
  where
    go : (b : Bool) → point_eq s.one.label.point p.label.point ≡ b → Stands (placed ps p) q
    go true w = record { one = p; there = in-placed-new ps p; at = sym (same-point s.one.label.point p.label.point w) ∙ s.at }
    go false w = record { one = s.one; there = into-placed ps p s.one s.there w; at = s.at }

all-stands : (ps base : List Payload) (x : Payload) → In ps x ⊎ In base x → Stands (placed_all ps base) x.label.point
all-stands [] base x (inl i) = absurd i
all-stands [] base x (inr i) = record { one = x; there = i; at = refl }
all-stands (p ∷ ps) base x (inl (inl e)) = record { one = p; there = in-placed-new (placed_all ps base) p; at = ap (λ (y : Payload). y.label.point) e }
all-stands (p ∷ ps) base x (inl (inr i)) = placed-stands (placed_all ps base) p x.label.point (all-stands ps base x (inl i))
all-stands (p ∷ ps) base x (inr i) = placed-stands (placed_all ps base) p x.label.point (all-stands ps base x (inr i))

-- of those that wait in the queues and among the others there is one at a point
unique : (queues : List (List Payload)) (others : List Payload) (x y : Payload) → IsParts queues others → In (flat queues) x ⊎ In others x → In (flat queues) y ⊎ In others y → x.label.point ≡ y.label.point → x ≡ y
unique queues others x y is (inl i) (inl j) e =
    let a : Place queues x = row-in queues x i in
    let b : Place queues y = row-in queues y j in
    let g : b.row ≡ a.row = sym (is.gears b.row y b.there) ∙ (ap (λ (p : Point). p.gear) (sym e) ∙ is.gears a.row x a.there) in
    same-in (get_or queues a.row []) x y (is.rises a.row) a.there (subst (λ (k : ℕ). In (get_or queues k []) y) g b.there) e
unique queues others x y is (inl i) (inr j) e =
    let a : Place queues x = row-in queues x i in
    absurd (let z : point_eq x.label.point y.label.point ≡ false = is.apart a.row x y a.there j in let w : point_eq x.label.point y.label.point ≡ true = subst (λ (p : Point). point_eq x.label.point p ≡ true) e (point-self x.label.point) in cc)
unique queues others x y is (inr i) (inl j) e =
    let b : Place queues y = row-in queues y j in
    absurd (let z : point_eq y.label.point x.label.point ≡ false = is.apart b.row y x b.there i in let w : point_eq y.label.point x.label.point ≡ true = subst (λ (p : Point). point_eq y.label.point p ≡ true) (sym e) (point-self y.label.point) in cc)
unique queues others x y is (inr i) (inr j) e = same-in others x y is.aside i j e

view-in : (queues : List (List Payload)) (others : List Payload) (x : Payload) → In (row_view queues others) x → In (flat queues) x ⊎ In others x
view-in queues others x i = in-all (flat queues) others x i

in-view : (queues : List (List Payload)) (others : List Payload) (x : Payload) → IsParts queues others → In (flat queues) x ⊎ In others x → In (row_view queues others) x
in-view queues others x is i =
    let s : Stands (row_view queues others) x.label.point = all-stands (flat queues) others x i in
    subst (λ (y : Payload). In (row_view queues others) y) (unique queues others s.one x is (view-in queues others s.one s.there) i s.at) s.there

pub view-ascends : (queues : List (List Payload)) (others : List Payload) → IsParts queues others → Ascends (row_view queues others)
view-ascends queues others is = all-ascends (flat queues) others is.aside

-- ---- what is found

at-view : (queues : List (List Payload)) (others : List Payload) (q : Point) (x : Payload) → IsParts queues others → In (flat queues) x ⊎ In others x → x.label.point ≡ q → Some x ≡ at_point (row_view queues others) q
at-view queues others q x is i e = sym (in-at (row_view queues others) x (view-ascends queues others is) (in-view queues others x is i)) ∙ ap (at_point (row_view queues others)) e

queue-none : (queues : List (List Payload)) (others : List Payload) (q : Point) (x : Payload) → IsParts queues others → at_point (get_or queues q.gear []) q ≡ None → In (flat queues) x → point_eq x.label.point q ≡ false
queue-none queues others q x is e i =
    let a : Place queues x = row-in queues x i in
    false_from_ne_true (point_eq x.label.point q) (λ t.
    let p : x.label.point ≡ q = same-point x.label.point q t in
    let g : a.row ≡ q.gear = sym (is.gears a.row x a.there) ∙ ap (λ (r : Point). r.gear) p in
    let f : point_eq x.label.point q ≡ false = none-at (get_or queues q.gear []) q e x (subst (λ (k : ℕ). In (get_or queues k []) x) g a.there) in
    cc)

-- first in the queue of its gear, then among the others
pub found_or : (queues : List (List Payload)) (others : List Payload) (q : Point) (o u : Option Payload) → IsParts queues others → o ≡ at_point (get_or queues q.gear []) q → u ≡ at_point others q → option_or o u ≡ at_point (row_view queues others) q
found_or queues others q (Some x) u is e f =
    let k : In (get_or queues q.gear []) x × (x.label.point ≡ q) = at-in (get_or queues q.gear []) q x (sym e) in
    at-view queues others q x is (inl (in-row queues q.gear x k.0)) k.1
found_or queues others q None (Some y) is e f =
    let k : In others y × (y.label.point ≡ q) = at-in others q y (sym f) in
    at-view queues others q y is (inr k.0) k.1
found_or queues others q None None is e f =
    sym (none-there (row_view queues others) q (λ x i. elim (view-in queues others x i) [
      | inl a ↦ queue-none queues others q x is (sym e) a
      | inr b ↦ none-at others q (sym f) x b
    ]))

-- ---- one queue is another one

record Turns (queues after : List (List Payload)) (g : ℕ) (r : List Payload) : Type 0 where
  here : get_or after g [] ≡ r
  other : (h : ℕ) → (h ≡ g → ⊥) → get_or after h [] ≡ get_or queues h []

turns-set : (queues after : List (List Payload)) (g : ℕ) (r : List Payload) → g < length queues → after ≡ set queues g r → Turns queues after g r
turns-set queues after g r lt e = record {
  here = ap (λ (qs : List (List Payload)). get_or qs g []) e ∙ get_or-set_same queues g r [] lt;
  other = λ h ne. ap (λ (qs : List (List Payload)). get_or qs h []) e ∙ get_or-set_other queues g h r [] ne;
}

set-out : (queues : List (List Payload)) (g : ℕ) (r : List Payload) → length queues ≤ g → set queues g r ≡ queues
set-out [] g r le = refl
set-out (x ∷ queues) zero r le = absurd (omega arith)
set-out (x ∷ queues) (suc g) r le = ap (λ (ys : List (List Payload)). x ∷ ys) (set-out queues g r (omega arith))

turns-without : (queues after : List (List Payload)) (q : Point) → after ≡ set queues q.gear (without (get_or queues q.gear []) q) → Turns queues after q.gear (without (get_or queues q.gear []) q)
turns-without queues after q e = elim (cases_lt q.gear (length queues)) [
  | inl lt ↦ turns-set queues after q.gear (without (get_or queues q.gear []) q) lt e
  | inr le ↦ (let same : after ≡ queues = e ∙ set-out queues q.gear (without (get_or queues q.gear []) q) le in
      let none : get_or queues q.gear [] ≡ [] = get_or_past queues q.gear [] le in
      record {
        here = ap (λ (qs : List (List Payload)). get_or qs q.gear []) same ∙ (none ∙ ap (λ (ps : List Payload). without ps q) (sym none));
        other = λ h ne. ap (λ (qs : List (List Payload)). get_or qs h []) same;
      })
]

-- its members
turned-to : (queues after : List (List Payload)) (g h : ℕ) (r : List Payload) (x : Payload) → Turns queues after g r → In (get_or after h []) x → ((h ≡ g) × In r x) ⊎ ((h ≡ g → ⊥) × In (get_or queues h []) x)
turned-to queues after g h r x t i = go (cases_eq h g)
  where
    go : (h ≡ g) ⊎ (h ≡ g → ⊥) → ((h ≡ g) × In r x) ⊎ ((h ≡ g → ⊥) × In (get_or queues h []) x)
    go (inl e) = inl (e, subst (λ (ps : List Payload). In ps x) (ap (λ (k : ℕ). get_or after k []) e ∙ t.here) i)
    go (inr ne) = inr (ne, subst (λ (ps : List Payload). In ps x) (t.other h ne) i)

turned-from : (queues after : List (List Payload)) (g h : ℕ) (r : List Payload) (x : Payload) → Turns queues after g r → ((h ≡ g) × In r x) ⊎ ((h ≡ g → ⊥) × In (get_or queues h []) x) → In (flat after) x
turned-from queues after g h r x t (inl (e, i)) = in-row after g x (subst (λ (ps : List Payload). In ps x) (sym t.here) i)
turned-from queues after g h r x t (inr (ne, i)) = in-row after h x (subst (λ (ps : List Payload). In ps x) (sym (t.other h ne)) i)

turned-rises : (queues after : List (List Payload)) (others : List Payload) (g : ℕ) (r : List Payload) → IsParts queues others → Turns queues after g r → Ascends r → (h : ℕ) → Ascends (get_or after h [])
turned-rises queues after others g r is t up h = go (cases_eq h g)
  where
    go : (h ≡ g) ⊎ (h ≡ g → ⊥) → Ascends (get_or after h [])
    go (inl e) = subst (λ (ps : List Payload). Ascends ps) (sym (ap (λ (k : ℕ). get_or after k []) e ∙ t.here)) up
    go (inr ne) = subst (λ (ps : List Payload). Ascends ps) (sym (t.other h ne)) (is.rises h)

turned-gears : (queues after : List (List Payload)) (others : List Payload) (g : ℕ) (r : List Payload) → IsParts queues others → Turns queues after g r → ((x : Payload) → In r x → x.label.point.gear ≡ g) → (h : ℕ) (x : Payload) → In (get_or after h []) x → x.label.point.gear ≡ h
turned-gears queues after others g r is t f h x i = elim (turned-to queues after g h r x t i) [
  | inl a ↦ f x a.1 ∙ sym a.0
  | inr b ↦ is.gears h x b.1
]

-- ---- the list of all, after a change

record Puts (queues after : List (List Payload)) (others aside : List Payload) (p : Payload) : Type 0 where
  to : (x : Payload) → In (flat after) x ⊎ In aside x → (x ≡ p) ⊎ ((In (flat queues) x ⊎ In others x) × (point_eq x.label.point p.label.point ≡ false))
  back : (x : Payload) → In (flat queues) x ⊎ In others x → point_eq x.label.point p.label.point ≡ false → In (flat after) x ⊎ In aside x
  new : In (flat after) p ⊎ In aside p

view-placed : (queues after : List (List Payload)) (others aside : List Payload) (p : Payload) → IsParts queues others → IsParts after aside → Puts queues after others aside p → row_view after aside ≡ placed (row_view queues others) p
view-placed queues after others aside p is new puts =
    same-list (row_view after aside) (placed (row_view queues others) p) (view-ascends after aside new) (placed-ascends (row_view queues others) p (view-ascends queues others is))
    (λ x i. elim (puts.to x (view-in after aside x i)) [
      | inl e ↦ subst (λ (y : Payload). In (placed (row_view queues others) p) y) (sym e) (in-placed-new (row_view queues others) p)
      | inr k ↦ into-placed (row_view queues others) p x (in-view queues others x is k.0) k.1
    ])
    (λ x i. in-view after aside x new (elim (from-placed (row_view queues others) p x (view-ascends queues others is) i) [
      | inl e ↦ subst (λ (y : Payload). In (flat after) y ⊎ In aside y) (sym e) puts.new
      | inr k ↦ puts.back x (view-in queues others x k.0) k.1
    ]))

-- ---- one more at the end of a queue

on-in : (ps : List Payload) (p x : Payload) → In (ps ++ p ∷ []) x → In ps x ⊎ (x ≡ p)
on-in ps p x i = elim (In-parts ps (p ∷ []) x i) [ inl a ↦ inl a | inr b ↦ elim b [ inl e ↦ inr (sym e) | inr j ↦ absurd j ] ]

pub record Pushed (queues after : List (List Payload)) (others : List Payload) (p : Payload) : Type 0 where
  pub parts : IsParts after others
  pub view : row_view after others ≡ placed (row_view queues others) p

push-parts : (queues after : List (List Payload)) (others : List Payload) (p : Payload) → IsParts queues others → Turns queues after p.label.point.gear (get_or queues p.label.point.gear [] ++ p ∷ []) → ((x : Payload) → In (get_or queues p.label.point.gear []) x → point_lt x.label.point p.label.point ≡ true) → at_point others p.label.point ≡ None → IsParts after others
push-parts queues after others p is t below alone = record {
  gears = turned-gears queues after others p.label.point.gear (get_or queues p.label.point.gear [] ++ p ∷ []) is t (λ x i. elim (on-in (get_or queues p.label.point.gear []) p x i) [
    | inl a ↦ is.gears p.label.point.gear x a
    | inr e ↦ ap (λ (y : Payload). y.label.point.gear) e
  ]);
  rises = turned-rises queues after others p.label.point.gear (get_or queues p.label.point.gear [] ++ p ∷ []) is t (on-ascends (get_or queues p.label.point.gear []) p (is.rises p.label.point.gear) below);
  aside = is.aside;
  apart = λ h x y i j. elim (turned-to queues after p.label.point.gear h (get_or queues p.label.point.gear [] ++ p ∷ []) x t i) [
    | inl a ↦ elim (on-in (get_or queues p.label.point.gear []) p x a.1) [
      | inl k ↦ is.apart p.label.point.gear x y k j
      | inr e ↦ subst (λ (z : Payload). point_eq z.label.point y.label.point ≡ false) (sym e) (eq-turned p.label.point y.label.point ∙ none-at others p.label.point alone y j)
    ]
    | inr b ↦ is.apart h x y b.1 j
  ];
}

push-puts : (queues after : List (List Payload)) (others : List Payload) (p : Payload) → IsParts queues others → Turns queues after p.label.point.gear (get_or queues p.label.point.gear [] ++ p ∷ []) → ((x : Payload) → In (get_or queues p.label.point.gear []) x → point_lt x.label.point p.label.point ≡ true) → at_point others p.label.point ≡ None → Puts queues after others others p
push-puts queues after others p is t below alone = record {
  to = λ x i. elim i [
    | inl a ↦ (let k : Place after x = row-in after x a in
        elim (turned-to queues after p.label.point.gear k.row (get_or queues p.label.point.gear [] ++ p ∷ []) x t k.there) [
          | inl c ↦ elim (on-in (get_or queues p.label.point.gear []) p x c.1) [
            | inl d ↦ inr (inl (in-row queues p.label.point.gear x d), lt-not_eq x.label.point p.label.point (below x d))
            | inr e ↦ inl e
          ]
          | inr c ↦ inr (inl (in-row queues k.row x c.1), gears-not_eq x.label.point p.label.point (λ e. c.0 (sym (is.gears k.row x c.1) ∙ e)))
        ])
    | inr b ↦ inr (inr b, none-at others p.label.point alone x b)
  ];
  back = λ x i ne. elim i [
    | inl a ↦ (let k : Place queues x = row-in queues x a in
        inl (turned-from queues after p.label.point.gear k.row (get_or queues p.label.point.gear [] ++ p ∷ []) x t (elim (cases_eq k.row p.label.point.gear) [
          | inl e ↦ inl (e, In-left (get_or queues p.label.point.gear []) (p ∷ []) x (subst (λ (h : ℕ). In (get_or queues h []) x) e k.there))
          | inr ng ↦ inr (ng, k.there)
        ])))
    | inr b ↦ inr b
  ];
  new = inl (in-row after p.label.point.gear p (subst (λ (ps : List Payload). In ps p) (sym t.here) (In-right (get_or queues p.label.point.gear []) (p ∷ []) p (inl refl))));
}

pub pushed : (queues after : List (List Payload)) (others : List Payload) (p : Payload) → IsParts queues others → p.label.point.gear < length queues → after ≡ set queues p.label.point.gear (get_or queues p.label.point.gear [] ++ p ∷ []) →
    ((x : Payload) → In (get_or queues p.label.point.gear []) x → point_lt x.label.point p.label.point ≡ true) → at_point others p.label.point ≡ None → Pushed queues after others p
pushed queues after others p is lt e below alone =
    let t : Turns queues after p.label.point.gear (get_or queues p.label.point.gear [] ++ p ∷ []) = turns-set queues after p.label.point.gear (get_or queues p.label.point.gear [] ++ p ∷ []) lt e in
    let new : IsParts after others = push-parts queues after others p is t below alone in
    record { parts = new; view = view-placed queues after others others p is new (push-puts queues after others p is t below alone) }

queued-none : (ps : List Payload) (p : Payload) → ((x : Payload) → In ps x → point_lt x.label.point p.label.point ≡ true) → at_point ps p.label.point ≡ None
queued-none ps p below = none-there ps p.label.point (λ x i. lt-not_eq x.label.point p.label.point (below x i))

-- nothing waited there
pub push_alone : (queues : List (List Payload)) (others : List Payload) (p : Payload) → IsParts queues others → ((x : Payload) → In (get_or queues p.label.point.gear []) x → point_lt x.label.point p.label.point ≡ true) → at_point others p.label.point ≡ None → at_point (row_view queues others) p.label.point ≡ None
push_alone queues others p is below alone = sym (found_or queues others p.label.point None None is (sym (queued-none (get_or queues p.label.point.gear []) p below)) (sym alone))

-- ---- one more among the others

pub record Aside (queues after : List (List Payload)) (others aside : List Payload) (p : Payload) : Type 0 where
  pub parts : IsParts after aside
  pub view : row_view after aside ≡ placed (row_view queues others) p

aside-parts : (queues after : List (List Payload)) (others : List Payload) (p : Payload) → IsParts queues others → Turns queues after p.label.point.gear (without (get_or queues p.label.point.gear []) p.label.point) → IsParts after (placed others p)
aside-parts queues after others p is t = record {
  gears = turned-gears queues after others p.label.point.gear (without (get_or queues p.label.point.gear []) p.label.point) is t (λ x i. is.gears p.label.point.gear x (without-in (get_or queues p.label.point.gear []) p.label.point x i).0);
  rises = turned-rises queues after others p.label.point.gear (without (get_or queues p.label.point.gear []) p.label.point) is t (without-ascends (get_or queues p.label.point.gear []) p.label.point (is.rises p.label.point.gear));
  aside = placed-ascends others p is.aside;
  apart = λ h x y i j. elim (turned-to queues after p.label.point.gear h (without (get_or queues p.label.point.gear []) p.label.point) x t i) [
    | inl a ↦ (let w : In (get_or queues p.label.point.gear []) x × (point_eq x.label.point p.label.point ≡ false) = without-in (get_or queues p.label.point.gear []) p.label.point x a.1 in
        elim (placed-in others p y j) [
          | inl e ↦ subst (λ (z : Payload). point_eq x.label.point z.label.point ≡ false) e w.1
          | inr k ↦ is.apart p.label.point.gear x y w.0 k
        ])
    | inr b ↦ elim (placed-in others p y j) [
      | inl e ↦ subst (λ (z : Payload). point_eq x.label.point z.label.point ≡ false) e (gears-not_eq x.label.point p.label.point (λ w. b.0 (sym (is.gears h x b.1) ∙ w)))
      | inr k ↦ is.apart h x y b.1 k
    ]
  ];
}

aside-puts : (queues after : List (List Payload)) (others : List Payload) (p : Payload) → IsParts queues others → Turns queues after p.label.point.gear (without (get_or queues p.label.point.gear []) p.label.point) → Puts queues after others (placed others p) p
aside-puts queues after others p is t = record {
  to = λ x i. elim i [
    | inl a ↦ (let k : Place after x = row-in after x a in
        elim (turned-to queues after p.label.point.gear k.row (without (get_or queues p.label.point.gear []) p.label.point) x t k.there) [
          | inl c ↦ (let w : In (get_or queues p.label.point.gear []) x × (point_eq x.label.point p.label.point ≡ false) = without-in (get_or queues p.label.point.gear []) p.label.point x c.1 in
              inr (inl (in-row queues p.label.point.gear x w.0), w.1))
          | inr c ↦ inr (inl (in-row queues k.row x c.1), gears-not_eq x.label.point p.label.point (λ e. c.0 (sym (is.gears k.row x c.1) ∙ e)))
        ])
    | inr b ↦ elim (from-placed others p x is.aside b) [
      | inl e ↦ inl e
      | inr k ↦ inr (inr k.0, k.1)
    ]
  ];
  back = λ x i ne. elim i [
    | inl a ↦ (let k : Place queues x = row-in queues x a in
        inl (turned-from queues after p.label.point.gear k.row (without (get_or queues p.label.point.gear []) p.label.point) x t (elim (cases_eq k.row p.label.point.gear) [
          | inl e ↦ inl (e, in-without (get_or queues p.label.point.gear []) p.label.point x (subst (λ (h : ℕ). In (get_or queues h []) x) e k.there) ne)
          | inr ng ↦ inr (ng, k.there)
        ])))
    | inr b ↦ inr (into-placed others p x b ne)
  ];
  new = inr (in-placed-new others p);
}

pub put_beside : (queues after : List (List Payload)) (others aside : List Payload) (p : Payload) → IsParts queues others → after ≡ set queues p.label.point.gear (without (get_or queues p.label.point.gear []) p.label.point) → aside ≡ placed others p → Aside queues after others aside p
put_beside queues after others aside p is e f =
    let t : Turns queues after p.label.point.gear (without (get_or queues p.label.point.gear []) p.label.point) = turns-without queues after p.label.point e in
    let new : IsParts after (placed others p) = aside-parts queues after others p is t in
    subst (λ (ps : List Payload). Aside queues after others ps p) (sym f) (record { parts = new; view = view-placed queues after others (placed others p) p is new (aside-puts queues after others p is t) })

-- ---- one is taken

pub record TakenOut (queues after : List (List Payload)) (others aside : List Payload) (q : Point) : Type 0 where
  pub parts : IsParts after aside
  pub view : row_view after aside ≡ without (row_view queues others) q

out-parts : (queues after : List (List Payload)) (others : List Payload) (q : Point) → IsParts queues others → Turns queues after q.gear (without (get_or queues q.gear []) q) → IsParts after (without others q)
out-parts queues after others q is t = record {
  gears = turned-gears queues after others q.gear (without (get_or queues q.gear []) q) is t (λ x i. is.gears q.gear x (without-in (get_or queues q.gear []) q x i).0);
  rises = turned-rises queues after others q.gear (without (get_or queues q.gear []) q) is t (without-ascends (get_or queues q.gear []) q (is.rises q.gear));
  aside = without-ascends others q is.aside;
  apart = λ h x y i j. elim (turned-to queues after q.gear h (without (get_or queues q.gear []) q) x t i) [
    | inl a ↦ is.apart q.gear x y (without-in (get_or queues q.gear []) q x a.1).0 (without-in others q y j).0
    | inr b ↦ is.apart h x y b.1 (without-in others q y j).0
  ];
}

out-to : (queues after : List (List Payload)) (others : List Payload) (q : Point) (x : Payload) → IsParts queues others → Turns queues after q.gear (without (get_or queues q.gear []) q) → In (flat after) x ⊎ In (without others q) x → (In (flat queues) x ⊎ In others x) × (point_eq x.label.point q ≡ false)
out-to queues after others q x is t (inl a) =
    let k : Place after x = row-in after x a in
    elim (turned-to queues after q.gear k.row (without (get_or queues q.gear []) q) x t k.there) [
      | inl c ↦ (let w : In (get_or queues q.gear []) x × (point_eq x.label.point q ≡ false) = without-in (get_or queues q.gear []) q x c.1 in
          (inl (in-row queues q.gear x w.0), w.1))
      | inr c ↦ (inl (in-row queues k.row x c.1), gears-not_eq x.label.point q (λ e. c.0 (sym (is.gears k.row x c.1) ∙ e)))
    ]
out-to queues after others q x is t (inr b) = let w : In others x × (point_eq x.label.point q ≡ false) = without-in others q x b in (inr w.0, w.1)

out-back : (queues after : List (List Payload)) (others : List Payload) (q : Point) (x : Payload) → Turns queues after q.gear (without (get_or queues q.gear []) q) → In (flat queues) x ⊎ In others x → point_eq x.label.point q ≡ false → In (flat after) x ⊎ In (without others q) x
out-back queues after others q x t (inl a) ne =
    let k : Place queues x = row-in queues x a in
    inl (turned-from queues after q.gear k.row (without (get_or queues q.gear []) q) x t (elim (cases_eq k.row q.gear) [
      | inl e ↦ inl (e, in-without (get_or queues q.gear []) q x (subst (λ (h : ℕ). In (get_or queues h []) x) e k.there) ne)
      | inr ng ↦ inr (ng, k.there)
    ]))
out-back queues after others q x t (inr b) ne = inr (in-without others q x b ne)

out-done : (queues after : List (List Payload)) (others : List Payload) (q : Point) → IsParts queues others → Turns queues after q.gear (without (get_or queues q.gear []) q) → TakenOut queues after others (without others q) q
out-done queues after others q is t =
    let new : IsParts after (without others q) = out-parts queues after others q is t in
    record {
      parts = new;
      view = same-list (row_view after (without others q)) (without (row_view queues others) q) (view-ascends after (without others q) new) (without-ascends (row_view queues others) q (view-ascends queues others is))
          (λ x i. (let k : (In (flat queues) x ⊎ In others x) × (point_eq x.label.point q ≡ false) = out-to queues after others q x is t (view-in after (without others q) x i) in
          in-without (row_view queues others) q x (in-view queues others x is k.0) k.1))
          (λ x i. (let k : In (row_view queues others) x × (point_eq x.label.point q ≡ false) = without-in (row_view queues others) q x i in
          in-view after (without others q) x new (out-back queues after others q x t (view-in queues others x k.0) k.1)));
    }

pub taken_out : (queues after : List (List Payload)) (others aside : List Payload) (q : Point) → IsParts queues others → after ≡ set queues q.gear (without (get_or queues q.gear []) q) → aside ≡ without others q → TakenOut queues after others aside q
taken_out queues after others aside q is e f = subst (λ (ps : List Payload). TakenOut queues after others ps q) (sym f) (out-done queues after others q is (turns-without queues after q e))

-- what stands in a queue doesn't stand among the others
pub others_stay : (queues : List (List Payload)) (others : List Payload) (q : Point) (x : Payload) → IsParts queues others → Some x ≡ at_point (get_or queues q.gear []) q → others ≡ without others q
others_stay queues others q x is e =
    let k : In (get_or queues q.gear []) x × (x.label.point ≡ q) = at-in (get_or queues q.gear []) q x (sym e) in
    sym (without-none others q (λ y j. eq-turned y.label.point q ∙ subst (λ (r : Point). point_eq r y.label.point ≡ false) k.1 (is.apart q.gear x y k.0 j)))

-- ---- the same in more queues

pub same_queues : (queues : List (List Payload)) → SameQueues queues queues
same_queues queues = record { all = refl; each = λ g. refl }

-- one more that is empty
end-none : (queues : List (List Payload)) (g : ℕ) → get_or (queues ++ [] ∷ []) g [] ≡ get_or queues g []
end-none [] zero = refl
end-none [] (suc g) = refl
end-none (x ∷ queues) zero = refl
end-none (x ∷ queues) (suc g) = end-none queues g

end-flat : (queues : List (List Payload)) → flat (queues ++ [] ∷ []) ≡ flat queues
end-flat queues = flat_map-append (λ (ps : List Payload). ps) queues ([] ∷ []) ∙ append-nil (flat queues)

pub more_queues : (queues old new : List (List Payload)) → SameQueues queues old → new ≡ old ++ [] ∷ [] → SameQueues queues new
more_queues queues old new same e = record {
  all = ap flat e ∙ (end-flat old ∙ same.all);
  each = λ g. ap (λ (qs : List (List Payload)). get_or qs g []) e ∙ (end-none old g ∙ same.each g);
}

-- ---- the first

pub first_set : (ps : List Payload) (p : Payload) → sets_first (first_label ps) p.label ≡ first_label (placed ps p)
first_set [] p = refl
first_set (q ∷ qs) p = go (point_lt q.label.point p.label.point) (point_lt p.label.point q.label.point) (point_eq p.label.point q.label.point) refl refl refl
  where
    go : (w t u : Bool) → point_lt q.label.point p.label.point ≡ w → point_lt p.label.point q.label.point ≡ t → point_eq p.label.point q.label.point ≡ u →
        (if w then Some q.label else Some p.label) ≡ first_label (if t then p ∷ q ∷ qs else (if u then p ∷ qs else q ∷ placed qs p))
    go true true u a b c = absurd (lt-both q.label.point p.label.point a b)
    go true false true a b c = absurd (let z : point_eq q.label.point p.label.point ≡ false = lt-not_eq q.label.point p.label.point a in let y : point_eq q.label.point p.label.point ≡ true = eq-turned q.label.point p.label.point ∙ c in cc)
    go true false false a b c = refl
    go false true u a b c = refl
    go false false true a b c = refl
    go false false false a b c = absurd (let z : point_lt q.label.point p.label.point ≡ true = lt-by p.label.point q.label.point b c in cc)

pub first_left : (ps : List Payload) (q : Point) → stands_at (first_label ps) q ≡ false → first_label ps ≡ first_label (without ps q)
first_left [] q e = refl
first_left (p ∷ ps) q e = ap first_label (ap (λ (b : Bool). cond (not b) (p ∷ without ps q) (without ps q)) (sym e))

first-least : (ps : List Payload) → Ascends ps → first_label ps ≡ least_label every (map labelled ps)
first-least [] up = sym (least-nil every)
first-least (p ∷ ps) up = sym (least-first every p ps up refl)

pub first_start : (others : List Payload) (queues : List (List Payload)) (o : Option Label) → o ≡ first_label others → Ascends others → o ≡ least_label every (map labelled (others ++ flat (take 0 queues)))
first_start others queues o e up = e ∙ (first-least others up ∙ ap (λ (ps : List Payload). least_label every (map labelled ps)) (sym (append-nil others)))

pub first_more : (others : List Payload) (queues : List (List Payload)) (i : ℕ) (queue : List Payload) (o u : Option Label) → i < length queues → queue ≡ get_or queues i queue → o ≡ least_label every (map labelled (others ++ flat (take i queues))) → u ≡ first_label queue → Ascends queue →
    lesser o u ≡ least_label every (map labelled (others ++ flat (take (i + 1) queues)))
first_more others queues i queue o u lt e a b up =
    let more : flat (take (i + 1) queues) ≡ flat (take i queues) ++ queue =
    ap flat (take_more queues i queue lt)
    ∙ (flat_map-append (λ (ps : List Payload). ps) (take i queues) (get_or queues i queue ∷ [])
    ∙ ap (λ (ps : List Payload). flat (take i queues) ++ ps) (append-nil (get_or queues i queue) ∙ sym e)) in
    let all : others ++ flat (take (i + 1) queues) ≡ (others ++ flat (take i queues)) ++ queue =
    ap (λ (ps : List Payload). others ++ ps) more ∙ sym (append_assoc others (flat (take i queues)) queue) in
    ap (λ (v : Option Label). lesser v u) a
    ∙ (ap (λ (v : Option Label). lesser (least_label every (map labelled (others ++ flat (take i queues)))) v) (b ∙ first-least queue up)
    ∙ (sym (least-append every (map labelled (others ++ flat (take i queues))) (map labelled queue))
    ∙ ap (least_label every) (sym (ap (map labelled) all ∙ map-append labelled (others ++ flat (take i queues)) queue))))

-- the first of a list that ascends is the least of any list with its members
record Labelled (ps : List Payload) (l : Label) : Type 0 where
  one : Payload
  there : In ps one
  is : one.label ≡ l

of-label : (ps : List Payload) (l : Label) → In (map labelled ps) l → Labelled ps l
of-label [] l i = absurd i
of-label (p ∷ ps) l (inl e) = record { one = p; there = inl refl; is = e }
of-label (p ∷ ps) l (inr i) = let k : Labelled ps l = of-label ps l i in record { one = k.one; there = inr k.there; is = k.is }

in-label : (ps : List Payload) (p : Payload) → In ps p → In (map labelled ps) p.label
in-label [] p i = absurd i
in-label (q ∷ ps) p (inl e) = inl (ap labelled e)
in-label (q ∷ ps) p (inr i) = inr (in-label ps p i)

first-of : (ps qs : List Payload) → Ascends qs → ((x : Payload) → In ps x → In qs x) → ((x : Payload) → In qs x → In ps x) → least_label every (map labelled ps) ≡ first_label qs
first-of ps [] up f g = least-none every (map labelled ps) (λ l i. absurd (let k : Labelled ps l = of-label ps l i in f k.one k.there))
first-of ps (q ∷ qs) up f g = go (least_label every (map labelled ps)) refl
  where
    head : (x : Payload) (l : Label) → x.label ≡ l → label_lt q.label l ≡ false → (q ≡ x) ⊎ In qs x → Some l ≡ Some q.label
    head x l e low (inl a) = ap Some (sym e ∙ ap (λ (y : Payload). y.label) (sym a))
    head x l e low (inr i) = absurd (let z : label_lt q.label l ≡ true = subst (λ (m : Label). label_lt q.label m ≡ true) e (labels-lt q.label x.label (up.0 x i)) in cc)

    go : (o : Option Label) → least_label every (map labelled ps) ≡ o → o ≡ Some q.label
    go None e = absurd (none-passes every (map labelled ps) q.label e refl (in-label ps q (g q (inl refl))))
    go (Some l) e =
        let least = least-is every (map labelled ps) l e in
        let k : Labelled ps l = of-label ps l least.member in
        head k.one l k.is (least.lowest q.label (in-label ps q (g q (inl refl))) refl) (f k.one k.there)

take-length : (queues : List (List Payload)) → take (length queues) queues ≡ queues
take-length [] = refl
take-length (s ∷ queues) = ap (λ (qs : List (List Payload)). s ∷ qs) (take-length queues)

pub first_whole : (others : List Payload) (queues : List (List Payload)) (o : Option Label) → IsParts queues others → o ≡ least_label every (map labelled (others ++ flat (take (length queues) queues))) → o ≡ first_label (row_view queues others)
first_whole others queues o is e =
    e ∙ (ap (λ (qs : List (List Payload)). least_label every (map labelled (others ++ flat qs))) (take-length queues)
    ∙ first-of (others ++ flat queues) (row_view queues others) (view-ascends queues others is)
    (λ x i. in-view queues others x is (elim (In-parts others (flat queues) x i) [ inl a ↦ inr a | inr b ↦ inl b ]))
    (λ x i. elim (view-in queues others x i) [ inl a ↦ In-right others (flat queues) x a | inr b ↦ In-left others (flat queues) x b ]))

-- ---- the calls

set-was : (queues : List (List Payload)) (g : ℕ) (was : List Payload) → was ≡ get_or queues g was → set queues g was ≡ queues
set-was [] g was e = refl
set-was (x ∷ queues) zero was e = ap (λ (ps : List Payload). ps ∷ queues) e
set-was (x ∷ queues) (suc g) was e = ap (λ (ys : List (List Payload)). x ∷ ys) (set-was queues g was e)

pub may_stand : (queues : List (List Payload)) (others : List Payload) (q : Point) (queue : List Payload) → q.gear < length queues → queue ≡ get_or queues q.gear queue → AreBelow queue q → at_point others q ≡ None → MayStand queues others q
may_stand queues others q queue lt e below alone = record {
  within = lt;
  below = subst (λ (ps : List Payload). AreBelow ps q) (e ∙ get_or_default queues q.gear queue [] lt) below;
  alone = alone;
}

push-row : (queues : List (List Payload)) (others : List Payload) (p : Payload) (was new : List Payload) → IsParts queues others → MayStand queues others p.label.point → was ≡ get_or queues p.label.point.gear was → new ≡ was ++ p ∷ [] → Pushed queues (set queues p.label.point.gear new) others p
push-row queues others p was new is may e n =
    let seen : new ≡ get_or queues p.label.point.gear [] ++ p ∷ [] =
    n ∙ ap (λ (ps : List Payload). ps ++ p ∷ []) (e ∙ get_or_default queues p.label.point.gear was [] may.within) in
    pushed queues (set queues p.label.point.gear new) others p is may.within (ap (set queues p.label.point.gear) seen) may.below.each may.alone

pub push_parts : {X : Type 0} (queues : List (List Payload)) (others : List Payload) (p : Payload) (was new : List Payload) (r : Result X Payload) → IsParts queues others → MayStand queues others p.label.point → was ≡ get_or queues p.label.point.gear was → OnOk r (new ≡ was ++ p ∷ []) → OnErr r (new ≡ was) → IsParts (set queues p.label.point.gear new) others
push_parts queues others p was new (Ok x) is may e ok err = (push-row queues others p was new is may e ok).parts
push_parts queues others p was new (Err x) is may e ok err = subst (λ (qs : List (List Payload)). IsParts qs others) (sym (ap (set queues p.label.point.gear) err ∙ set-was queues p.label.point.gear was e)) is

pub push_view : {X : Type 0} (queues : List (List Payload)) (others : List Payload) (p : Payload) (was new : List Payload) (r : Result X Payload) → IsParts queues others → MayStand queues others p.label.point → was ≡ get_or queues p.label.point.gear was → OnOk r (new ≡ was ++ p ∷ []) →
    OnOk r (row_view (set queues p.label.point.gear new) others ≡ placed (row_view queues others) p)
push_view queues others p was new (Ok x) is may e ok = (push-row queues others p was new is may e ok).view
push_view queues others p was new (Err x) is may e ok = tt

pub push_before : (queues : List (List Payload)) (others : List Payload) (p : Payload) → IsParts queues others → MayStand queues others p.label.point → at_point (row_view queues others) p.label.point ≡ None
push_before queues others p is may = push_alone queues others p is may.below.each may.alone

pub take_rows : (queues : List (List Payload)) (g : ℕ) (q : Point) (was new : List Payload) → was ≡ get_or queues g was → new ≡ without was q → set queues g new ≡ set queues g (without (get_or queues g []) q)
take_rows [] g q was new e n = refl
take_rows (x ∷ queues) zero q was new e n = ap (λ (ps : List Payload). ps ∷ queues) (n ∙ ap (λ (s : List Payload). without s q) e)
take_rows (x ∷ queues) (suc g) q was new e n = ap (λ (ys : List (List Payload)). x ∷ ys) (take_rows queues g q was new e n)

pub queue_some : (queues : List (List Payload)) (g : ℕ) (was : List Payload) → g < length queues → was ≡ get_or queues g was → get_or queues g [] ≡ was
queue_some queues g was lt e = sym (e ∙ get_or_default queues g was [] lt)

pub queue_none : (queues : List (List Payload)) (g : ℕ) → length queues ≤ g → get_or queues g [] ≡ []
queue_none queues g le = get_or_past queues g [] le

-- of a queue whose front may be taken
pub take_front_rows : (queues : List (List Payload)) (g : ℕ) (q : Point) (was new : List Payload) (r : Option Payload) → was ≡ get_or queues g was → OnSome r (new ≡ without was q) → OnSome r (set queues g new ≡ set queues g (without (get_or queues g []) q))
take_front_rows queues g q was new None e n = tt
take_front_rows queues g q was new (Some x) e n = take_rows queues g q was new e n

pub left_front_rows : (queues : List (List Payload)) (g : ℕ) (was new : List Payload) (r : Option Payload) → was ≡ get_or queues g was → IfNone r (new ≡ was) → IfNone r (set queues g new ≡ queues)
left_front_rows queues g was new None e n = ap (set queues g) n ∙ set-was queues g was e
left_front_rows queues g was new (Some x) e n = tt

pub found_front : (queues : List (List Payload)) (g : ℕ) (q : Point) (was : List Payload) (r : Option Payload) → g < length queues → was ≡ get_or queues g was → IfSome r (λ p. Some p ≡ at_point was q) → IfSome r (λ p. Some p ≡ at_point (get_or queues g []) q)
found_front queues g q was None lt e f = tt
found_front queues g q was (Some x) lt e f = f ∙ ap (λ (ps : List Payload). at_point ps q) (sym (queue_some queues g was lt e))

-- taken out of a queue, or from among the others
pub record Out (queues after : List (List Payload)) (others aside : List Payload) (q : Point) (o : Option Payload) : Type 0 where
  pub parts : IsParts after aside
  pub found : o ≡ at_point (row_view queues others) q
  pub view : row_view after aside ≡ without (row_view queues others) q

pub out_queued : (queues after : List (List Payload)) (others : List Payload) (q : Point) (o : Option Payload) → IsParts queues others → o ≡ at_point (get_or queues q.gear []) q → after ≡ set queues q.gear (without (get_or queues q.gear []) q) → is_some o ≡ true → Out queues after others others q o
out_queued queues after others q None is e f some = absurd (cc)
out_queued queues after others q (Some x) is e f some =
    let k : TakenOut queues after others others q = taken_out queues after others others q is f (others_stay queues others q x is e) in
    record { parts = k.parts; found = found_or queues others q (Some x) (at_point others q) is e refl; view = k.view }

pub out_aside : (queues after : List (List Payload)) (others aside : List Payload) (q : Point) (o u : Option Payload) → IsParts queues others → o ≡ at_point (get_or queues q.gear []) q → after ≡ set queues q.gear (without (get_or queues q.gear []) q) → is_some o ≡ false → u ≡ at_point others q → aside ≡ without others q → Out queues after others aside q u
out_aside queues after others aside q (Some x) u is e f none g h = absurd (cc)
out_aside queues after others aside q None u is e f none g h =
    let k : TakenOut queues after others aside q = taken_out queues after others aside q is f h in
    record { parts = k.parts; found = found_or queues others q None u is e g; view = k.view }

-- the front of its gear's queue, which is that of a label
pub record Front (queues after : List (List Payload)) (others : List Payload) (l : Label) (r : Option Payload) : Type 0 where
  pub parts : IsParts after others
  pub found : r ≡ row_waiting_of (row_view queues others) l
  pub view : row_view after others ≡ row_after_take_of (row_view queues others) l (row_waiting_of (row_view queues others) l)

pub out_front : (queues after : List (List Payload)) (others : List Payload) (l : Label) (r : Option Payload) → IsParts queues others → IfSome r (λ p. Some p ≡ at_point (get_or queues l.point.gear []) l.point) → IfSome r (λ p. p.label ≡ l) →
    OnSome r (after ≡ set queues l.point.gear (without (get_or queues l.point.gear []) l.point)) → is_some r ≡ true → Front queues after others l r
out_front queues after others l None is found same new some = absurd (cc)
out_front queues after others l (Some p) is found same new some =
    let out : Out queues after others others l.point (Some p) = out_queued queues after others l.point (Some p) is found new some in
    let of : Some p ≡ row_waiting_of (row_view queues others) l = found_of (row_view queues others) l p out.found same in
    record { parts = out.parts; found = of; view = out.view ∙ ap (row_after_take_of (row_view queues others) l) of }

-- ---- the first is kept, where it is known

pub kept_stays : (queues after : List (List Payload)) (others aside : List Payload) (f : Option Label) (k : Bool) → IsKept queues others f k → IsParts after aside → row_view after aside ≡ row_view queues others → IsKept after aside f k
kept_stays queues after others aside f k is parts e = record { parts = parts; first = λ t. is.first t ∙ ap first_label (sym e) }

pub kept_put : (queues after : List (List Payload)) (others aside : List Payload) (f n : Option Label) (k : Bool) (p : Payload) → IsKept queues others f k → IsParts after aside → row_view after aside ≡ placed (row_view queues others) p → n ≡ sets_first f p.label → IsKept after aside n k
kept_put queues after others aside f n k p is parts e w = record {
  parts = parts;
  first = λ t. w ∙ (ap (λ (o : Option Label). sets_first o p.label) (is.first t) ∙ (first_set (row_view queues others) p ∙ ap first_label (sym e)));
}

-- behind the first
stays-first : (f : Option Label) (l : Label) → stands_below f l.point ≡ true → f ≡ sets_first f l
stays-first None l e = absurd (cc)
stays-first (Some m) l e = sym (ap (λ (b : Bool). if b then Some m else Some l) e)

below-first : (k b : Bool) → (k && not b) ≡ false → k ≡ true → b ≡ true
below-first true true e t = refl
below-first true false e t = absurd (cc)
below-first false b e t = absurd (cc)

pub kept_behind : {X : Type 0} (queues after : List (List Payload)) (others aside : List Payload) (f : Option Label) (k : Bool) (p : Payload) (r : Result X Payload) → IsKept queues others f k → IsParts after aside → OnOk r (row_view after aside ≡ placed (row_view queues others) p) → OnErr r (row_view after aside ≡ row_view queues others) →
    (k && not (stands_below f p.label.point)) ≡ false → IsKept after aside f k
kept_behind queues after others aside f k p (Ok x) is parts ok err behind = record {
  parts = parts;
  first = λ t. (kept_put queues after others aside f f k p is parts ok (stays-first f p.label (below-first k (stands_below f p.label.point) behind t))).first t;
}
kept_behind queues after others aside f k p (Err x) is parts ok err behind = kept_stays queues after others aside f k is parts err

pub kept_out : (queues after : List (List Payload)) (others aside : List Payload) (f n : Option Label) (k : Bool) (q : Point) → IsKept queues others f k → IsParts after aside → row_view after aside ≡ without (row_view queues others) q → n ≡ (if stands_at f q then first_label (row_view after aside) else f) → IsKept after aside n k
kept_out queues after others aside f n k q is parts e w = record { parts = parts; first = λ t. w ∙ go t (stands_at f q) refl }
  where
    go : k ≡ true → (b : Bool) → stands_at f q ≡ b → (if b then first_label (row_view after aside) else f) ≡ first_label (row_view after aside)
    go t true s = refl
    go t false s = is.first t ∙ (first_left (row_view queues others) q (ap (λ (o : Option Label). stands_at o q) (sym (is.first t)) ∙ s) ∙ ap first_label (sym e))

-- where it is forgotten, it may be any
pub kept_not : (queues : List (List Payload)) (others : List Payload) (f : Option Label) (k : Bool) → IsParts queues others → k ≡ false → IsKept queues others f k
kept_not queues others f true parts e = absurd (cc)
kept_not queues others f false parts e = record { parts = parts; first = λ t. absurd (cc) }
