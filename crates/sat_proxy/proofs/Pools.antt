-- The payload of a point in the pool.
use Rattle.std.specs.Prelude.{ℕ, ◌≡◌, ◌<◌, Bool, true, false, ◌&&◌, ◌==◌, not, cond, List, [], ◌∷◌, length, set, Some, None, if◌then◌else◌, refl}
use Rattle.std.proofs.Common.{arith, ap, ◌∙◌, subst, inl, inr}
use Rattle.std.proofs.lemmas.List.{get_or-set_same, set-set, set-get_or}
use Rattle.std.proofs.lemmas.Bool.Decides.{nat_tests}
use Rattle.std.proofs.lemmas.Bool.{and_parts, eqb-true}
use Rattle.sat_label.specs.declared.point.Point.{Point}
use Rattle.sat_label.specs.declared.label.Label.{Label}
use Rattle.sat_label.specs.Order.{point_lt, point_eq}
use Rattle.sat_label.specs.Least.{least_label}
use Rattle.sat_label.specs.Members.{In}
use Rattle.sat_bulk.specs.Payloads.{Payload}
use Rattle.sat_pool.specs.Pool.{Waiting, after_add, after_take, at_point, labels_waiting, placed, row_of, waiting_at, without, IsPool, IsRow}
use Rattle.sat_proxy.proofs.Candidates.{Candidate, candidate-is}

pub some_is : {X : Type 0} (x y : X) → Some x ≡ Some y → x ≡ y
some_is x y e = cc

point_eq-self : (p : Point) → point_eq p p ≡ true
point_eq-self p = grind (arith, nat_tests)

point_eq-turned : (p q : Point) (b : Bool) → point_eq p q ≡ b → point_eq q p ≡ b
point_eq-turned p q b e = go p q ∙ e
  where
    eq : (a b : ℕ) → (a == b) ≡ (b == a)
    eq a b = grind (arith, nat_tests)

    go : (p q : Point) → point_eq q p ≡ point_eq p q
    go p q = three (eq q.ts p.ts) (eq q.site p.site) (eq q.gear p.gear)
      where
        three : {a b c d e f : Bool} → a ≡ d → b ≡ e → c ≡ f → (a && (b && c)) ≡ (d && (e && f))
        three x y z = λ i. (x i && (y i && z i))

lt-apart : (p q : Point) → point_lt p q ≡ true → point_eq q p ≡ false
lt-apart p q e = grind (arith, nat_tests)

-- no payload of some has a point
first-not : (p : Payload) (ps : List Payload) (q : Point) → at_point (p ∷ ps) q ≡ None → point_eq p.label.point q ≡ false
first-not p ps q e = go (point_eq p.label.point q) e
  where
    go : (b : Bool) → (if b then Some p else at_point ps q) ≡ None → b ≡ false
    go true e = absurd (cc)
    go false e = refl

rest-none : (p : Payload) (ps : List Payload) (q : Point) → at_point (p ∷ ps) q ≡ None → at_point ps q ≡ None
rest-none p ps q e = go (point_eq p.label.point q) e
  where
    go : (b : Bool) → (if b then Some p else at_point ps q) ≡ None → at_point ps q ≡ None
    go true e = absurd (cc)
    go false e = e

keep : (p : Payload) (ps : List Payload) (q : Point) → point_eq p.label.point q ≡ false → without (p ∷ ps) q ≡ p ∷ without ps q
keep p ps q e = ap (λ (b : Bool). cond (not b) (p ∷ without ps q) (without ps q)) e

leave : (p : Payload) (ps : List Payload) (q : Point) → point_eq p.label.point q ≡ true → without (p ∷ ps) q ≡ without ps q
leave p ps q e = ap (λ (b : Bool). cond (not b) (p ∷ without ps q) (without ps q)) e

none-leaves : (ps : List Payload) (q : Point) → at_point ps q ≡ None → without ps q ≡ ps
none-leaves [] q e = refl
none-leaves (p ∷ ps) q e = keep p ps q (first-not p ps q e) ∙ ap (λ (us : List Payload). p ∷ us) (none-leaves ps q (rest-none p ps q e))

-- one that was placed is found there, and without it the others are left
record Placed (ps qs : List Payload) (p : Payload) : Type 0 where
  found : at_point qs p.label.point ≡ Some p
  left : without qs p.label.point ≡ ps

placed-front : (ps : List Payload) (p : Payload) → at_point ps p.label.point ≡ None → Placed ps (p ∷ ps) p
placed-front ps p e = record {
  found = ap (λ (b : Bool). if b then Some p else at_point ps p.label.point) (point_eq-self p.label.point);
  left = leave p ps p.label.point (point_eq-self p.label.point) ∙ none-leaves ps p.label.point e;
}

placed-is : (ps : List Payload) (p : Payload) → at_point ps p.label.point ≡ None → Placed ps (placed ps p) p
placed-is [] p e = placed-front [] p e
placed-is (q ∷ ps) p e = go (point_lt p.label.point q.label.point) (point_eq p.label.point q.label.point) refl (placed-is ps p (rest-none q ps p.label.point e))
  where
    other : point_eq q.label.point p.label.point ≡ false
    other = first-not q ps p.label.point e

    go : (b c : Bool) → point_eq p.label.point q.label.point ≡ c → Placed ps (placed ps p) p → Placed (q ∷ ps) (if b then p ∷ q ∷ ps else (if c then p ∷ ps else q ∷ placed ps p)) p
    go true c w k = placed-front (q ∷ ps) p e
    go false true w k = absurd (let z : point_eq q.label.point p.label.point ≡ true = point_eq-turned p.label.point q.label.point true w in cc)
    go false false w k = record {
      found = ap (λ (b : Bool). if b then Some q else at_point (placed ps p) p.label.point) other ∙ k.found;
      left = keep q (placed ps p) p.label.point other ∙ ap (λ (us : List Payload). q ∷ us) k.left;
    }

row-added : (w : Waiting) (p : Payload) → p.label.point.site < length w.rows → row_of (after_add w p) p.label.point.site ≡ placed (row_of w p.label.point.site) p
row-added w p lt = get_or-set_same w.rows p.label.point.site (placed (row_of w p.label.point.site) p) [] lt

pub added-waits : (w : Waiting) (p : Payload) → p.label.point.site < length w.rows → waiting_at w p.label.point ≡ None → waiting_at (after_add w p) p.label.point ≡ Some p
added-waits w p lt e = ap (λ (ps : List Payload). at_point ps p.label.point) (row-added w p lt) ∙ (placed-is (row_of w p.label.point.site) p e).found

pub added-away : (w : Waiting) (p : Payload) → p.label.point.site < length w.rows → waiting_at w p.label.point ≡ None → after_take (after_add w p) p.label.point ≡ w
added-away w p lt e = ap (λ (rows : List (List Payload)). record { rows = rows }) rows
  where
    k : ℕ
    k = p.label.point.site

    new : List Payload
    new = placed (row_of w k) p

    left : without (row_of (after_add w p) k) p.label.point ≡ row_of w k
    left = ap (λ (ps : List Payload). without ps p.label.point) (row-added w p lt) ∙ (placed-is (row_of w k) p e).left

    rows : set (set w.rows k new) k (without (row_of (after_add w p) k) p.label.point) ≡ w.rows
    rows = set-set w.rows k new (without (row_of (after_add w p) k) p.label.point) ∙ (ap (set w.rows k) left ∙ set-get_or w.rows k [])

-- ---- what is found has the point, and what waits is found

pub same-point : (p q : Point) → point_eq p q ≡ true → p ≡ q
same-point p q e =
    let a = and_parts (p.ts == q.ts) _ e in
    let b = and_parts (p.site == q.site) _ a.1 in
    λ i. record { ts = eqb-true p.ts q.ts a.0 i; site = eqb-true p.site q.site b.0 i; gear = eqb-true p.gear q.gear b.1 i }

pub found-point : (ps : List Payload) (q : Point) (p : Payload) → at_point ps q ≡ Some p → p.label.point ≡ q
found-point [] q p e = absurd (cc)
found-point (r ∷ ps) q p e = go (point_eq r.label.point q) refl e (found-point ps q p)
  where
    go : (b : Bool) → point_eq r.label.point q ≡ b → (if b then Some r else at_point ps q) ≡ Some p → (at_point ps q ≡ Some p → p.label.point ≡ q) → p.label.point ≡ q
    go true w e rest = let same : r ≡ p = cc in subst (λ (s : Payload). s.label.point ≡ q) same (same-point r.label.point q w)
    go false w e rest = rest e

pub row-finds : (k : ℕ) (ps : List Payload) (p : Payload) → IsRow k ps → In ps p → at_point ps p.label.point ≡ Some p
row-finds k [] p is m = absurd m
row-finds k (q ∷ ps) p is (inl e) = subst (λ (r : Payload). at_point (q ∷ ps) r.label.point ≡ Some r) e (ap (λ (b : Bool). if b then Some q else at_point ps q.label.point) (point_eq-self q.label.point))
row-finds k (q ∷ ps) p is (inr m) = ap (λ (b : Bool). if b then Some q else at_point ps p.label.point) (point_eq-turned p.label.point q.label.point false (lt-apart q.label.point p.label.point (is.1 p m))) ∙ row-finds k ps p is.2 m

-- the candidate's payload waits
pub candidate-found : (test : Label → Bool) (w : Waiting) (l : Label) → IsPool w → least_label test (labels_waiting w) ≡ Some l → (p : Payload) × (waiting_at w l.point ≡ Some p) × (p.label ≡ l)
candidate-found test w l is e =
    let c : Candidate w l = candidate-is test w l is e in
    (c.payload, subst (λ (m : Label). at_point (row_of w l.point.site) m.point ≡ Some c.payload) c.label (row-finds l.point.site (row_of w l.point.site) c.payload (is.each l.point.site) c.there), c.label)
