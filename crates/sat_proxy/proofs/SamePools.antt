-- The updates that wait: what is in the pool, what comes into it, and what leaves it.
use Rattle.std.specs.Prelude.{◌≡◌, ◌≢◌, ◌⊎◌, ◌<◌, ◌≤◌, ◌+◌, ℕ, zero, suc, Bool, true, false, not, cond, List, [], ◌∷◌, ◌++◌, length, filter, set, get_or, Option, Some, None, is_some, if◌then◌else◌, refl}
use Rattle.std.specs.List.{flat_map}
use Rattle.std.proofs.Common.{ap, sym, subst, ◌∙◌, arith, inl, inr, length-append}
use Rattle.std.proofs.lemmas.List.{get_or-set_same, get_or-set_other}
use Rattle.std.proofs.lemmas.Bool.{cases_eq, false_from_ne_true, not_from_false}
use Rattle.std.proofs.lemmas.Bool.Decides.{nat_tests}
use Rattle.sat_label.specs.declared.point.Point.{Point}
use Rattle.sat_label.specs.declared.label.Label.{Label}
use Rattle.sat_label.specs.Order.{point_lt, point_eq, label_eq}
use Rattle.sat_label.specs.Members.{In}
use Rattle.sat_label.specs.Words.{has}
use Rattle.sat_label.proofs.Members.{In-left, In-right, In-parts, In-filter, into-filter, has-in, in-has}
use Rattle.sat_label.proofs.Orders.{lt-not_eq, same-point, same-label, label_eq-self, labels-differ}
use Rattle.sat_bulk.specs.Payloads.{Payload}
use Rattle.sat_pool.specs.Pool.{Waiting, row_of, all_waiting, labelled, labels_waiting, at_point, waiting_at, placed, without, after_add, after_take, IsRow, IsPool}
use Rattle.sat_proxy.specs.Steps.{waiting_of}
use Rattle.sat_proxy.specs.Stands.{SamePayloads}
use Rattle.sat_proxy.proofs.SameLists.{in-map, map-in}

abbrev pub joined : List (List Payload) → List Payload
joined rows = flat_map (λ row. row) rows

point-self : (p : Point) → point_eq p p ≡ true
point-self p = grind (arith, nat_tests)

point-turn : (p q : Point) → point_eq p q ≡ false → point_eq q p ≡ false
point-turn p q e = grind (arith, nat_tests)

some_is : {X : Type 0} (x y : X) → Some x ≡ Some y → x ≡ y
some_is x y e = cc

-- ---- rows

in-some : (rows : List (List Payload)) (x : Payload) → In (joined rows) x → (i : ℕ) × In (get_or rows i []) x
in-some [] x m = absurd m
in-some (r ∷ rs) x m = elim (In-parts r (joined rs) x m) [
  | inl w ↦ (0, w)
  | inr w ↦ let k : (i : ℕ) × In (get_or rs i []) x = in-some rs x w in (suc k.0, k.1)
]

some-in : (rows : List (List Payload)) (i : ℕ) (x : Payload) → In (get_or rows i []) x → In (joined rows) x
some-in [] i x m = absurd m
some-in (r ∷ rs) zero x m = In-left r (joined rs) x m
some-in (r ∷ rs) (suc i) x m = In-right r (joined rs) x (some-in rs i x m)

row-site : (k : ℕ) (ps : List Payload) (x : Payload) → IsRow k ps → In ps x → x.label.point.site ≡ k
row-site k [] x is m = absurd m
row-site k (p ∷ ps) x is (inl e) = sym (λ j. (e j).label.point.site) ∙ is.0
row-site k (p ∷ ps) x is (inr m) = row-site k ps x is.2 m

pub in-row : (w : Waiting) (x : Payload) → IsPool w → In (all_waiting w) x → In (row_of w x.label.point.site) x
in-row w x is m =
    let k : (i : ℕ) × In (get_or w.rows i []) x = in-some w.rows x m in
    subst (λ (i : ℕ). In (row_of w i) x) (sym (row-site k.0 (row_of w k.0) x (is.each k.0) k.1)) k.1

pub row-in : (w : Waiting) (k : ℕ) (x : Payload) → In (row_of w k) x → In (all_waiting w) x
row-in w k x m = some-in w.rows k x m

-- ---- the payload at a point

at-in : (ps : List Payload) (q : Point) (x : Payload) → at_point ps q ≡ Some x → In ps x × (point_eq x.label.point q ≡ true)
at-in [] q x e = absurd (cc)
at-in (p ∷ ps) q x e = go (point_eq p.label.point q) refl e (at-in ps q x)
  where
    go : (b : Bool) → point_eq p.label.point q ≡ b → (if b then Some p else at_point ps q) ≡ Some x → (at_point ps q ≡ Some x → In ps x × (point_eq x.label.point q ≡ true)) → In (p ∷ ps) x × (point_eq x.label.point q ≡ true)
    go true w e rest = let s : p ≡ x = some_is p x e in (inl s, subst (λ (y : Payload). point_eq y.label.point q ≡ true) s w)
    go false w e rest = let k : In ps x × (point_eq x.label.point q ≡ true) = rest e in (inr k.0, k.1)

at-none : (ps : List Payload) (q : Point) (x : Payload) → at_point ps q ≡ None → In ps x → point_eq x.label.point q ≡ false
at-none [] q x e m = absurd m
at-none (p ∷ ps) q x e m = go (point_eq p.label.point q) refl e m (at-none ps q x)
  where
    go : (b : Bool) → point_eq p.label.point q ≡ b → (if b then Some p else at_point ps q) ≡ None → In (p ∷ ps) x → (at_point ps q ≡ None → In ps x → point_eq x.label.point q ≡ false) → point_eq x.label.point q ≡ false
    go true w e m rest = absurd (cc)
    go false w e (inl s) rest = subst (λ (y : Payload). point_eq y.label.point q ≡ false) s w
    go false w e (inr m) rest = rest e m

in-at : (k : ℕ) (ps : List Payload) (x : Payload) → IsRow k ps → In ps x → at_point ps x.label.point ≡ Some x
in-at k [] x is m = absurd m
in-at k (p ∷ ps) x is (inl s) = ap (λ (b : Bool). if b then Some p else at_point ps x.label.point) (ap (λ (y : Payload). point_eq y.label.point x.label.point) s ∙ point-self x.label.point) ∙ ap Some s
in-at k (p ∷ ps) x is (inr m) = ap (λ (b : Bool). if b then Some p else at_point ps x.label.point) (lt-not_eq p.label.point x.label.point (is.1 x m)) ∙ in-at k ps x is.2 m

pub waiting-some : (w : Waiting) (q : Point) (x : Payload) → waiting_at w q ≡ Some x → In (all_waiting w) x × (x.label.point ≡ q)
waiting-some w q x e =
    let k : In (row_of w q.site) x × (point_eq x.label.point q ≡ true) = at-in (row_of w q.site) q x e in
    (row-in w q.site x k.0, same-point x.label.point q k.1)

pub waiting-none : (w : Waiting) (q : Point) (x : Payload) → IsPool w → waiting_at w q ≡ None → In (all_waiting w) x → point_eq x.label.point q ≡ false
waiting-none w q x is e m = false_from_ne_true (point_eq x.label.point q) (λ t.
    let site : x.label.point.site ≡ q.site = (λ j. (same-point x.label.point q t j).site) in
    let f : point_eq x.label.point q ≡ false = at-none (row_of w q.site) q x e (subst (λ (k : ℕ). In (row_of w k) x) site (in-row w x is m)) in
    cc)

pub waiting-in : (w : Waiting) (x : Payload) → IsPool w → In (all_waiting w) x → waiting_at w x.label.point ≡ Some x
waiting-in w x is m = in-at x.label.point.site (row_of w x.label.point.site) x (is.each x.label.point.site) (in-row w x is m)

-- ---- a payload comes

abbrev IsPlaced : List Payload → List Payload → Payload → Type 0
IsPlaced new ps p = ((x : Payload) → In new x → In ps x ⊎ (p ≡ x)) × ((x : Payload) → In ps x → In new x) × In new p × (length new ≡ suc (length ps))

-- where its point was not there, it is one more
placed-is : (ps : List Payload) (p : Payload) → ((x : Payload) → In ps x → point_eq x.label.point p.label.point ≡ false) → IsPlaced (placed ps p) ps p
placed-is [] p none = (λ x m. elim m [ inl e ↦ inr e | inr e ↦ inl e ], λ x m. absurd m, inl refl, refl)
placed-is (q ∷ qs) p none = go (point_lt p.label.point q.label.point) (point_eq p.label.point q.label.point) refl (placed-is qs p (λ x m. none x (inr m)))
  where
    go : (b c : Bool) → point_eq p.label.point q.label.point ≡ c → IsPlaced (placed qs p) qs p → IsPlaced (if b then p ∷ q ∷ qs else (if c then p ∷ qs else q ∷ placed qs p)) (q ∷ qs) p
    go true c e k = (λ x m. elim m [ inl e ↦ inr e | inr e ↦ inl e ], λ x m. inr m, inl refl, refl)
    go false true e k = absurd (let f : point_eq p.label.point q.label.point ≡ false = point-turn q.label.point p.label.point (none q (inl refl)) in cc)
    go false false e k = (λ x m. elim m [ inl e ↦ inl (inl e) | inr i ↦ elim (k.0 x i) [ inl y ↦ inl (inr y) | inr y ↦ inr y ] ], λ x m. elim m [ inl e ↦ inl e | inr i ↦ inr (k.1 x i) ], inr k.2, ap suc k.3)

-- a row in place of another: so much longer is all that waits
set-count : (rows : List (List Payload)) (k : ℕ) (r : List Payload) → k < length rows → length (joined (set rows k r)) + length (get_or rows k []) ≡ length (joined rows) + length r
set-count [] k r lt = absurd (omega arith)
set-count (q ∷ qs) zero r lt = swap _ _ _ _ _ (length-append r (joined qs)) (length-append q (joined qs))
  where
    swap : (a b c d e : ℕ) → a ≡ c + d → b ≡ e + d → a + e ≡ b + c
    swap a b c d e f g = omega arith
set-count (q ∷ qs) (suc k) r lt = both _ _ _ _ _ _ _ (length-append q (joined (set qs k r))) (length-append q (joined qs)) (set-count qs k r (omega arith))
  where
    both : (a b c d e f g : ℕ) → a ≡ b + c → d ≡ b + e → c + f ≡ e + g → a + f ≡ d + g
    both a b c d e f g p q r = omega arith

row-same : (w : Waiting) (k : ℕ) (r : List Payload) → k < length w.rows → get_or (set w.rows k r) k [] ≡ r
row-same w k r lt = get_or-set_same w.rows k r [] lt

row-other : (w : Waiting) (k i : ℕ) (r : List Payload) → i ≢ k → get_or (set w.rows k r) i [] ≡ row_of w i
row-other w k i r ne = get_or-set_other w.rows k i r [] ne

abbrev site_of : Payload → ℕ
site_of p = p.label.point.site

row-placed : (w : Waiting) (p : Payload) → IsPool w → waiting_at w p.label.point ≡ None → IsPlaced (placed (row_of w (site_of p)) p) (row_of w (site_of p)) p
row-placed w p is none = placed-is (row_of w (site_of p)) p (λ x m. waiting-none w p.label.point x is none (row-in w (site_of p) x m))

add-in : (w : Waiting) (p x : Payload) → IsPool w → site_of p < length w.rows → waiting_at w p.label.point ≡ None → In (all_waiting (after_add w p)) x → In (all_waiting w) x ⊎ (p ≡ x)
add-in w p x is lt none m = go (in-some (set w.rows (site_of p) (placed (row_of w (site_of p)) p)) x m)
  where
    new : List Payload
    new = placed (row_of w (site_of p)) p

    go : (i : ℕ) × In (get_or (set w.rows (site_of p) new) i []) x → In (all_waiting w) x ⊎ (p ≡ x)
    go k = elim (cases_eq k.0 (site_of p)) [
      | inl e ↦ elim ((row-placed w p is none).0 x (subst (λ (ys : List Payload). In ys x) (ap (λ (i : ℕ). get_or (set w.rows (site_of p) new) i []) e ∙ row-same w (site_of p) new lt) k.1)) [
        | inl i ↦ inl (row-in w (site_of p) x i)
        | inr s ↦ inr s
      ]
      | inr ne ↦ inl (row-in w k.0 x (subst (λ (ys : List Payload). In ys x) (row-other w (site_of p) k.0 new ne) k.1))
    ]

in-add : (w : Waiting) (p x : Payload) → IsPool w → site_of p < length w.rows → waiting_at w p.label.point ≡ None → In (all_waiting w) x ⊎ (p ≡ x) → In (all_waiting (after_add w p)) x
in-add w p x is lt none m = elim m [
  | inl i ↦ elim (cases_eq (site_of x) (site_of p)) [
    | inl e ↦ some-in rows (site_of p) x (subst (λ (ys : List Payload). In ys x) (sym (row-same w (site_of p) new lt)) ((row-placed w p is none).1 x (subst (λ (k : ℕ). In (row_of w k) x) e (in-row w x is i))))
    | inr ne ↦ some-in rows (site_of x) x (subst (λ (ys : List Payload). In ys x) (sym (row-other w (site_of p) (site_of x) new ne)) (in-row w x is i))
  ]
  | inr s ↦ some-in rows (site_of p) x (subst (λ (ys : List Payload). In ys x) (sym (row-same w (site_of p) new lt)) (subst (λ (y : Payload). In new y) s (row-placed w p is none).2))
]
  where
    new : List Payload
    new = placed (row_of w (site_of p)) p

    rows : List (List Payload)
    rows = set w.rows (site_of p) new

add-count : (w : Waiting) (p : Payload) → IsPool w → site_of p < length w.rows → waiting_at w p.label.point ≡ None → length (all_waiting (after_add w p)) ≡ suc (length (all_waiting w))
add-count w p is lt none = one _ _ _ _ (set-count w.rows (site_of p) (placed (row_of w (site_of p)) p) lt) (row-placed w p is none).3
  where
    one : (a b c d : ℕ) → a + b ≡ c + d → d ≡ suc b → a ≡ suc c
    one a b c d e f = omega arith

-- in no order, a list with one more
last-count : (ps : List Payload) (p : Payload) → length (ps ++ p ∷ []) ≡ suc (length ps)
last-count [] p = refl
last-count (q ∷ ps) p = ap suc (last-count ps p)

pub same-add : (w : Waiting) (p : Payload) (qs : List Payload) → IsPool w → site_of p < length w.rows → waiting_at w p.label.point ≡ None → SamePayloads (all_waiting w) qs → SamePayloads (all_waiting (after_add w p)) (qs ++ p ∷ [])
same-add w p qs is lt none same = record {
  there = λ x m. elim (add-in w p x is lt none m) [ inl i ↦ In-left qs (p ∷ []) x (same.there x i) | inr s ↦ In-right qs (p ∷ []) x (inl s) ];
  back = λ x m. in-add w p x is lt none (elim (In-parts qs (p ∷ []) x m) [ inl i ↦ inl (same.back x i) | inr i ↦ elim i [ inl s ↦ inr s | inr y ↦ absurd y ] ]);
  count = add-count w p is lt none ∙ (ap suc same.count ∙ sym (last-count qs p));
}

-- ---- a payload leaves

cond-keep : (t : Payload → Bool) (p : Payload) (ps : List Payload) → t p ≡ true → filter t (p ∷ ps) ≡ p ∷ filter t ps
cond-keep t p ps e = ap (λ (b : Bool). cond b (p ∷ filter t ps) (filter t ps)) e

cond-drop : (t : Payload → Bool) (p : Payload) (ps : List Payload) → t p ≡ false → filter t (p ∷ ps) ≡ filter t ps
cond-drop t p ps e = ap (λ (b : Bool). cond b (p ∷ filter t ps) (filter t ps)) e

filter-all : (t : Payload → Bool) (ps : List Payload) → ((x : Payload) → In ps x → t x ≡ true) → filter t ps ≡ ps
filter-all t [] f = refl
filter-all t (p ∷ ps) f = cond-keep t p ps (f p (inl refl)) ∙ ap (λ (ys : List Payload). p ∷ ys) (filter-all t ps (λ x m. f x (inr m)))

without-count : (k : ℕ) (ps : List Payload) (x : Payload) → IsRow k ps → In ps x → suc (length (without ps x.label.point)) ≡ length ps
without-count k [] x is m = absurd m
without-count k (p ∷ ps) x is (inl s) =
    ap (λ (ys : List Payload). suc (length ys)) (cond-drop (λ y. not (point_eq y.label.point x.label.point)) p ps (ap (λ (y : Payload). not (point_eq y.label.point x.label.point)) s ∙ ap not (point-self x.label.point))
    ∙ filter-all (λ y. not (point_eq y.label.point x.label.point)) ps (λ y m. not_from_false _ (point-turn x.label.point y.label.point (subst (λ (z : Payload). point_eq z.label.point y.label.point ≡ false) s (lt-not_eq p.label.point y.label.point (is.1 y m))))))
without-count k (p ∷ ps) x is (inr m) =
    ap (λ (ys : List Payload). suc (length ys)) (cond-keep (λ y. not (point_eq y.label.point x.label.point)) p ps (not_from_false _ (lt-not_eq p.label.point x.label.point (is.1 x m))))
    ∙ ap suc (without-count k ps x is.2 m)

take-in : (w : Waiting) (q : Point) (x : Payload) → IsPool w → q.site < length w.rows → In (all_waiting (after_take w q)) x → In (all_waiting w) x × (point_eq x.label.point q ≡ false)
take-in w q x is lt m = go (in-some (set w.rows q.site new) x m)
  where
    new : List Payload
    new = without (row_of w q.site) q

    differ : (b : Bool) → not b ≡ true → b ≡ false
    differ true e = absurd (cc)
    differ false e = refl

    go : (i : ℕ) × In (get_or (set w.rows q.site new) i []) x → In (all_waiting w) x × (point_eq x.label.point q ≡ false)
    go k = elim (cases_eq k.0 q.site) [
      | inl e ↦
          let f : In (row_of w q.site) x × (not (point_eq x.label.point q) ≡ true) = In-filter (λ y. not (point_eq y.label.point q)) (row_of w q.site) x (subst (λ (ys : List Payload). In ys x) (ap (λ (i : ℕ). get_or (set w.rows q.site new) i []) e ∙ row-same w q.site new lt) k.1) in
          (row-in w q.site x f.0, differ (point_eq x.label.point q) f.1)
      | inr ne ↦
          let i : In (row_of w k.0) x = subst (λ (ys : List Payload). In ys x) (row-other w q.site k.0 new ne) k.1 in
          (row-in w k.0 x i, false_from_ne_true (point_eq x.label.point q) (λ t. ne (sym (row-site k.0 (row_of w k.0) x (is.each k.0) i) ∙ (λ j. (same-point x.label.point q t j).site))))
    ]

in-take : (w : Waiting) (q : Point) (x : Payload) → IsPool w → q.site < length w.rows → In (all_waiting w) x → point_eq x.label.point q ≡ false → In (all_waiting (after_take w q)) x
in-take w q x is lt m f = elim (cases_eq (site_of x) q.site) [
  | inl e ↦ some-in (set w.rows q.site new) q.site x (subst (λ (ys : List Payload). In ys x) (sym (row-same w q.site new lt)) (into-filter (λ y. not (point_eq y.label.point q)) (row_of w q.site) x (subst (λ (k : ℕ). In (row_of w k) x) e (in-row w x is m)) (not_from_false _ f)))
  | inr ne ↦ some-in (set w.rows q.site new) (site_of x) x (subst (λ (ys : List Payload). In ys x) (sym (row-other w q.site (site_of x) new ne)) (in-row w x is m))
]
  where
    new : List Payload
    new = without (row_of w q.site) q

take-count : (w : Waiting) (x : Payload) → IsPool w → site_of x < length w.rows → In (all_waiting w) x → suc (length (all_waiting (after_take w x.label.point))) ≡ length (all_waiting w)
take-count w x is lt m = one _ _ _ _ (set-count w.rows (site_of x) (without (row_of w (site_of x)) x.label.point) lt) (without-count (site_of x) (row_of w (site_of x)) x (is.each (site_of x)) (in-row w x is m))
  where
    one : (a b c d : ℕ) → a + b ≡ c + d → suc d ≡ b → suc a ≡ c
    one a b c d e f = omega arith

-- ---- lists whose payloads have different points

abbrev Apart : List Payload → Type 0
Apart [] = Unit {0}
Apart (p ∷ ps) = ((x : Payload) → In ps x → point_eq p.label.point x.label.point ≡ false) × Apart ps

apart-join : (ps qs : List Payload) → Apart ps → Apart qs → ((x y : Payload) → In ps x → In qs y → point_eq x.label.point y.label.point ≡ false) → Apart (ps ++ qs)
apart-join [] qs a b f = b
apart-join (p ∷ ps) qs a b f = (λ x m. elim (In-parts ps qs x m) [ inl i ↦ a.0 x i | inr i ↦ f p x (inl refl) i ], apart-join ps qs a.1 b (λ x y i. f x y (inr i)))

row-apart : (k : ℕ) (ps : List Payload) → IsRow k ps → Apart ps
row-apart k [] is = tt
row-apart k (p ∷ ps) is = (λ x m. lt-not_eq p.label.point x.label.point (is.1 x m), row-apart k ps is.2)

rows-apart : (k : ℕ) (rows : List (List Payload)) → ((i : ℕ) → IsRow (k + i) (get_or rows i [])) → Apart (joined rows)
rows-apart k [] each = tt
rows-apart k (r ∷ rs) each =
    apart-join r (joined rs) (row-apart (k + 0) r (each 0)) (rows-apart (k + 1) rs (λ i. subst (λ (n : ℕ). IsRow n (get_or rs i [])) (next k i) (each (suc i))))
    (λ x y m n. let j : (i : ℕ) × In (get_or rs i []) y = in-some rs y n in
    false_from_ne_true (point_eq x.label.point y.label.point) (λ t. clash k j.0 (site_of x) (site_of y) (row-site (k + 0) r x (each 0) m) (row-site (k + suc j.0) (get_or rs j.0 []) y (each (suc j.0)) j.1) (λ i. (same-point x.label.point y.label.point t i).site)))
  where
    next : (k i : ℕ) → k + suc i ≡ (k + 1) + i
    next k i = omega arith

    clash : (k i a b : ℕ) → a ≡ k + 0 → b ≡ k + suc i → a ≡ b → ⊥
    clash k i a b e f g = omega arith

pool-apart : (w : Waiting) → IsPool w → Apart (all_waiting w)
pool-apart w is = rows-apart 0 w.rows (λ i. subst (λ (n : ℕ). IsRow n (row_of w i)) (zero-plus i) (is.each i))
  where
    zero-plus : (i : ℕ) → i ≡ 0 + i
    zero-plus i = omega arith

filter-less : (t : Payload → Bool) (ps : List Payload) → length (filter t ps) ≤ length ps
filter-less t [] = omega arith
filter-less t (p ∷ ps) = go (t p) (filter-less t ps)
  where
    go : (b : Bool) → length (filter t ps) ≤ length ps → length (cond b (p ∷ filter t ps) (filter t ps)) ≤ suc (length ps)
    go true le = omega arith
    go false le = omega arith

drop-one : (t : Payload → Bool) (ps : List Payload) (x : Payload) → In ps x → t x ≡ false → suc (length (filter t ps)) ≤ length ps
drop-one t [] x m e = absurd m
drop-one t (p ∷ ps) x (inl s) e = subst (λ (n : ℕ). suc n ≤ suc (length ps)) (sym (ap (λ (ys : List Payload). length ys) (cond-drop t p ps (ap t s ∙ e)))) (up _ _ (filter-less t ps))
  where
    up : (a b : ℕ) → a ≤ b → suc a ≤ suc b
    up a b e = omega arith
drop-one t (p ∷ ps) x (inr m) e = go (t p) (drop-one t ps x m e)
  where
    go : (b : Bool) → suc (length (filter t ps)) ≤ length ps → suc (length (cond b (p ∷ filter t ps) (filter t ps))) ≤ suc (length ps)
    go true le = omega arith
    go false le = omega arith

-- as many at least has a list that has them all
subset-count : (ps qs : List Payload) → Apart ps → ((x : Payload) → In ps x → In qs x) → length ps ≤ length qs
subset-count [] qs a f = omega arith
subset-count (p ∷ ps) qs a f =
    let t : Payload → Bool = λ y. not (point_eq p.label.point y.label.point) in
    let le : length ps ≤ length (filter t qs) = subset-count ps (filter t qs) a.1 (λ x m. into-filter t qs x (f x (inr m)) (not_from_false _ (a.0 x m))) in
    let lt : suc (length (filter t qs)) ≤ length qs = drop-one t qs p (f p (inl refl)) (ap not (point-self p.label.point)) in
    chain _ _ _ le lt
  where
    chain : (a b c : ℕ) → a ≤ b → suc b ≤ c → suc a ≤ c
    chain a b c e f = omega arith

-- the update of a label leaves
pub same-take : (w : Waiting) (l : Label) (p : Payload) (qs : List Payload) → IsPool w → l.point.site < length w.rows → In (all_waiting w) p → p.label ≡ l → SamePayloads (all_waiting w) qs →
    SamePayloads (all_waiting (after_take w l.point)) (filter (λ q. not (label_eq l q.label)) qs)
same-take w l p qs is lt there is_l same = record {
  there = λ x m. (let k : In (all_waiting w) x × (point_eq x.label.point l.point ≡ false) = take-in w l.point x is lt m in into-filter keep qs x (same.there x k.0) (not_from_false _ (labels-differ l x.label (point-turn x.label.point l.point k.1))));
  back = λ x m. (let k : In qs x × (keep x ≡ true) = In-filter keep qs x m in in-take w l.point x is lt (same.back x k.0) (other x (same.back x k.0) k.1));
  count = both _ _ _ _ taken same.count less more;
}
  where
    keep : Payload → Bool
    keep q = not (label_eq l q.label)

    other : (x : Payload) → In (all_waiting w) x → keep x ≡ true → point_eq x.label.point l.point ≡ false
    other x m e = false_from_ne_true (point_eq x.label.point l.point) (λ t.
        let s : x.label.point ≡ p.label.point = same-point x.label.point l.point t ∙ sym (λ j. (is_l j).point) in
        let q : x ≡ p = some_is x p (sym (waiting-in w x is m) ∙ (ap (waiting_at w) s ∙ waiting-in w p is there)) in
        let z : keep x ≡ false = ap keep q ∙ (ap (λ (m : Label). not (label_eq l m)) is_l ∙ ap not (label_eq-self l)) in
        cc)

    taken : suc (length (all_waiting (after_take w l.point))) ≡ length (all_waiting w)
    taken = subst (λ (q : Point). suc (length (all_waiting (after_take w q))) ≡ length (all_waiting w)) (λ j. (is_l j).point) (take-count w p is (subst (λ (n : ℕ). n < length w.rows) (λ j. (sym is_l j).point.site) lt) there)

    less : suc (length (filter keep qs)) ≤ length qs
    less = drop-one keep qs p (same.there p there) (ap (λ (m : Label). not (label_eq l m)) is_l ∙ ap not (label_eq-self l))

    more : length (all_waiting w) ≤ suc (length (filter keep qs))
    more = subset-count (all_waiting w) (p ∷ filter keep qs) (pool-apart w is) (λ x m. go x m (keep x) refl)
      where
        go : (x : Payload) → In (all_waiting w) x → (b : Bool) → keep x ≡ b → In (p ∷ filter keep qs) x
        go x m true e = inr (into-filter keep qs x (same.there x m) e)
        go x m false e = inl (some_is p x (sym (waiting-in w p is there) ∙ (ap (waiting_at w) (λ j. (is_l j).point) ∙ (ap (waiting_at w) (λ j. (same-label l x.label (negated (label_eq l x.label) e) j).point) ∙ waiting-in w x is m))))
          where
            negated : (b : Bool) → not b ≡ false → b ≡ true
            negated true e = refl
            negated false e = absurd (cc)

    both : (a b m n : ℕ) → suc a ≡ m → m ≡ n → suc b ≤ n → m ≤ suc b → a ≡ b
    both a b m n e f g h = omega arith

-- ---- labels

-- a label that waits is of a site of the pool
row-below : (rows : List (List Payload)) (k : ℕ) (x : Payload) → In (get_or rows k []) x → k < length rows
row-below [] k x m = absurd m
row-below (r ∷ rs) zero x m = omega arith
row-below (r ∷ rs) (suc k) x m = let e : k < length rs = row-below rs k x m in omega arith

pub label-below : (w : Waiting) (l : Label) → IsPool w → In (labels_waiting w) l → l.point.site < length w.rows
label-below w l is m =
    let k : (x : Payload) × In (all_waiting w) x × (labelled x ≡ l) = in-map labelled (all_waiting w) l m in
    subst (λ (n : ℕ). n < length w.rows) (λ i. (k.2 i).point.site) (row-below w.rows (site_of k.0) k.0 (in-row w k.0 is k.1))

-- the waiting payload of a label
pub of-some : (w : Waiting) (l : Label) (x : Payload) → waiting_of w l ≡ Some x → In (all_waiting w) x × (x.label ≡ l)
of-some w l x e = go (waiting_at w l.point) refl e
  where
    go : (o : Option Payload) → waiting_at w l.point ≡ o → elim o [ None ↦ None | Some p ↦ if label_eq p.label l then Some p else None ] ≡ Some x → In (all_waiting w) x × (x.label ≡ l)
    go None w e = absurd (cc)
    go (Some p) at e = here (label_eq p.label l) refl e
      where
        here : (b : Bool) → label_eq p.label l ≡ b → (if b then Some p else None) ≡ Some x → In (all_waiting w) x × (x.label ≡ l)
        here true f e = let s : p ≡ x = some_is p x e in (subst (λ (y : Payload). In (all_waiting w) y) s (waiting-some w l.point p at).0, sym (λ i. (s i).label) ∙ same-label p.label l f)
        here false f e = absurd (cc)

pub some-of : (w : Waiting) (x : Payload) → IsPool w → In (all_waiting w) x → waiting_of w x.label ≡ Some x
some-of w x is m = go (waiting_at w x.label.point) (waiting-in w x is m)
  where
    go : (o : Option Payload) → o ≡ Some x → elim o [ None ↦ None | Some p ↦ if label_eq p.label x.label then Some p else None ] ≡ Some x
    go None e = absurd (cc)
    go (Some p) e =
        let s : p ≡ x = some_is p x e in
        ap (λ (b : Bool). if b then Some p else None) (ap (λ (y : Payload). label_eq y.label x.label) s ∙ label_eq-self x.label) ∙ ap Some s

pub has-waiting : (w : Waiting) (l : Label) → IsPool w → is_some (waiting_of w l) ≡ has label_eq (labels_waiting w) l
has-waiting w l is = go (waiting_of w l) refl (has label_eq (labels_waiting w) l) refl
  where
    go : (o : Option Payload) → waiting_of w l ≡ o → (b : Bool) → has label_eq (labels_waiting w) l ≡ b → is_some o ≡ b
    go None e false f = refl
    go (Some x) e true f = refl
    go None e true f =
        let k : (x : Payload) × In (all_waiting w) x × (labelled x ≡ l) = in-map labelled (all_waiting w) l (has-in (labels_waiting w) l f) in
        absurd (let z : Some k.0 ≡ None = sym (some-of w k.0 is k.1) ∙ (ap (waiting_of w) k.2 ∙ e) in cc)
    go (Some x) e false f =
        let k : In (all_waiting w) x × (x.label ≡ l) = of-some w l x e in
        absurd (let z : has label_eq (labels_waiting w) l ≡ true = in-has (labels_waiting w) l (subst (λ (m : Label). In (labels_waiting w) m) k.1 (map-in labelled (all_waiting w) x k.0)) in cc)
