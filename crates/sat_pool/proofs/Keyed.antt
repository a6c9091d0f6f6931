-- A map of payloads under their points against the list of the payloads.
use Rattle.std.specs.Prelude.{◌≡◌, ◌⊎◌, ◌||◌, ◌&&◌, ◌==◌, Bool, true, false, not, nat_lt, cond, List, [], ◌∷◌, length, Option, Some, None, if◌then◌else◌, refl}
use Rattle.std.specs.Ordering.{match_ordering, ordering_then}
use Rattle.std.specs.declared.cmp.Ordering.TheVariants.{Less, Equal, Greater}
use Rattle.std.specs.BTreeMap.{is_at, insert_entry}
use Rattle.std.specs.Map.{lookup, remove_entry, values_of}
use Rattle.std.proofs.Common.{arith, sym, ◌∙◌, ap, subst, inl, inr}
use Rattle.std.proofs.lemmas.Bool.Decides.{nat_tests}
use Rattle.sat_label.specs.declared.point.Point.{Point}
use Rattle.sat_label.specs.Order.{point_lt, point_eq}
use Rattle.sat_label.specs.Members.{In}
use Rattle.sat_label.proofs.Members.{In-filter}
use Rattle.sat_label.proofs.Orders.{point_lt-trans, same-point}
use Rattle.sat_bulk.specs.Payloads.{Payload}
use Rattle.sat_pool.specs.Pool.{at_point, placed, without}
use Rattle.sat_pool.specs.Rows.{keyed, point_cmp, Ascends, IsKeptRow}

-- ---- points compare as their tests say

by-tests : {X : Type 0} (s e t f u g : Bool) (a b c : X) →
    match_ordering (ordering_then (cond s Less (cond e Equal Greater)) (ordering_then (cond t Less (cond f Equal Greater)) (cond u Less (cond g Equal Greater)))) a b c
    ≡ (if s || (e && (t || (f && u))) then a else (if e && (f && g) then b else c))
by-tests true e t f u g a b c = refl
by-tests false false t f u g a b c = refl
by-tests false true true f u g a b c = refl
by-tests false true false false u g a b c = refl
by-tests false true false true true g a b c = refl
by-tests false true false true false true a b c = refl
by-tests false true false true false false a b c = refl

at-equal : (q p : Point) → is_at (point_cmp q) p ≡ point_eq p q
at-equal q p = grind (arith, nat_tests)

-- ---- what the map finds, puts and takes

pub values-keyed : (ps : List Payload) → values_of (keyed ps) ≡ ps
values-keyed [] = refl
values-keyed (p ∷ ps) = ap (λ (qs : List Payload). p ∷ qs) (values-keyed ps)

map-found : (ps : List Payload) (q : Point) → lookup (is_at (point_cmp q)) (keyed ps) ≡ at_point ps q
map-found [] q = refl
map-found (p ∷ ps) q =
    ap (λ (b : Bool). cond b (Some p) (lookup (is_at (point_cmp q)) (keyed ps))) (at-equal q p.label.point)
    ∙ ap (λ (o : Option Payload). cond (point_eq p.label.point q) (Some p) o) (map-found ps q)

map-placed : (ps : List Payload) (p : Payload) → insert_entry point_cmp (keyed ps) p.label.point p ≡ keyed (placed ps p)
map-placed [] p = refl
map-placed (q ∷ qs) p =
    by-tests (nat_lt p.label.point.ts q.label.point.ts) (p.label.point.ts == q.label.point.ts) (nat_lt p.label.point.site q.label.point.site) (p.label.point.site == q.label.point.site) (nat_lt p.label.point.gear q.label.point.gear) (p.label.point.gear == q.label.point.gear)
    ((p.label.point, p) ∷ keyed (q ∷ qs)) ((q.label.point, p) ∷ keyed qs) ((q.label.point, q) ∷ insert_entry point_cmp (keyed qs) p.label.point p)
    ∙ go (point_lt p.label.point q.label.point) (point_eq p.label.point q.label.point) refl (map-placed qs p)
  where
    go : (t u : Bool) → point_eq p.label.point q.label.point ≡ u → insert_entry point_cmp (keyed qs) p.label.point p ≡ keyed (placed qs p) →
        (if t then (p.label.point, p) ∷ keyed (q ∷ qs) else (if u then (q.label.point, p) ∷ keyed qs else (q.label.point, q) ∷ insert_entry point_cmp (keyed qs) p.label.point p))
        ≡ keyed (if t then p ∷ q ∷ qs else (if u then p ∷ qs else q ∷ placed qs p))
    go true u e rest = refl
    go false true e rest = ap (λ (k : Point). (k, p) ∷ keyed qs) (sym (same-point p.label.point q.label.point e))
    go false false e rest = ap (λ (es : List (Point × Payload)). (q.label.point, q) ∷ es) rest

-- ---- points ascend

eq-lt : (p q r : Point) → point_eq p r ≡ true → point_lt p q ≡ true → point_eq q r ≡ false
eq-lt p q r a b = grind (arith, nat_tests)

-- where none has the point, all stay
pub without-none : (ps : List Payload) (q : Point) → ((x : Payload) → In ps x → point_eq x.label.point q ≡ false) → without ps q ≡ ps
without-none [] q f = refl
without-none (p ∷ ps) q f =
    ap (λ (b : Bool). cond (not b) (p ∷ without ps q) (without ps q)) (f p (inl refl))
    ∙ ap (λ (xs : List Payload). p ∷ xs) (without-none ps q (λ x i. f x (inr i)))

-- where the first has the point, all others stay
pub without-others : (p : Payload) (ps : List Payload) (q : Point) → Ascends (p ∷ ps) → point_eq p.label.point q ≡ true → without ps q ≡ ps
without-others p ps q up e = without-none ps q (λ x i. eq-lt p.label.point x.label.point q e (up.0 x i))

map-without : (ps : List Payload) (q : Point) → Ascends ps → remove_entry (is_at (point_cmp q)) (keyed ps) ≡ keyed (without ps q)
map-without [] q up = refl
map-without (p ∷ ps) q up =
    ap (λ (b : Bool). cond b (keyed ps) ((p.label.point, p) ∷ remove_entry (is_at (point_cmp q)) (keyed ps))) (at-equal q p.label.point)
    ∙ go (point_eq p.label.point q) refl (map-without ps q up.1)
  where
    go : (b : Bool) → point_eq p.label.point q ≡ b → remove_entry (is_at (point_cmp q)) (keyed ps) ≡ keyed (without ps q) →
        cond b (keyed ps) ((p.label.point, p) ∷ remove_entry (is_at (point_cmp q)) (keyed ps)) ≡ keyed (cond (not b) (p ∷ without ps q) (without ps q))
    go true e rest = ap keyed (sym (without-others p ps q up e))
    go false e rest = ap (λ (es : List (Point × Payload)). (p.label.point, p) ∷ es) rest

pub placed-in : (ps : List Payload) (p x : Payload) → In (placed ps p) x → (p ≡ x) ⊎ In ps x
placed-in [] p x (inl e) = inl e
placed-in [] p x (inr i) = absurd i
placed-in (q ∷ qs) p x i = go (point_lt p.label.point q.label.point) (point_eq p.label.point q.label.point) i (placed-in qs p x)
  where
    go : (t u : Bool) → In (if t then p ∷ q ∷ qs else (if u then p ∷ qs else q ∷ placed qs p)) x → (In (placed qs p) x → (p ≡ x) ⊎ In qs x) → (p ≡ x) ⊎ In (q ∷ qs) x
    go true u (inl e) rest = inl e
    go true u (inr i) rest = inr i
    go false true (inl e) rest = inl e
    go false true (inr i) rest = inr (inr i)
    go false false (inl e) rest = inr (inl e)
    go false false (inr i) rest = elim (rest i) [ inl a ↦ inl a | inr b ↦ inr (inr b) ]

pub lt-by : (p q : Point) → point_lt p q ≡ false → point_eq p q ≡ false → point_lt q p ≡ true
lt-by p q a b = grind (arith, nat_tests)

lt-same : (p q r : Point) → point_eq p q ≡ true → point_lt q r ≡ true → point_lt p r ≡ true
lt-same p q r a b = grind (arith, nat_tests)

pub placed-ascends : (ps : List Payload) (p : Payload) → Ascends ps → Ascends (placed ps p)
placed-ascends [] p up = (λ x i. absurd i, tt)
placed-ascends (q ∷ qs) p up = go (point_lt p.label.point q.label.point) (point_eq p.label.point q.label.point) refl refl (placed-ascends qs p up.1)
  where
    go : (t u : Bool) → point_lt p.label.point q.label.point ≡ t → point_eq p.label.point q.label.point ≡ u → Ascends (placed qs p) → Ascends (if t then p ∷ q ∷ qs else (if u then p ∷ qs else q ∷ placed qs p))
    go true u e k rest = (λ x i. elim i [ inl a ↦ subst (λ (y : Payload). point_lt p.label.point y.label.point ≡ true) a e | inr b ↦ point_lt-trans p.label.point q.label.point x.label.point e (up.0 x b) ], up)
    go false true e k rest = (λ x i. lt-same p.label.point q.label.point x.label.point k (up.0 x i), up.1)
    go false false e k rest = (λ x i. elim (placed-in qs p x i) [ inl a ↦ subst (λ (y : Payload). point_lt q.label.point y.label.point ≡ true) a (lt-by p.label.point q.label.point e k) | inr b ↦ up.0 x b ], rest)

pub without-ascends : (ps : List Payload) (q : Point) → Ascends ps → Ascends (without ps q)
without-ascends [] q up = tt
without-ascends (p ∷ ps) q up = go (not (point_eq p.label.point q)) (without-ascends ps q up.1)
  where
    go : (b : Bool) → Ascends (without ps q) → Ascends (cond b (p ∷ without ps q) (without ps q))
    go true rest = (λ x i. up.0 x (In-filter (λ (y : Payload). not (point_eq y.label.point q)) ps x i).0, rest)
    go false rest = rest

-- ---- the calls

kept-by : (es : List (Point × Payload)) (ps : List Payload) → es ≡ keyed ps → Ascends ps → IsKeptRow es
kept-by es ps e up = subst (λ (xs : List (Point × Payload)). IsKeptRow xs) (sym e) (record {
  keys = ap keyed (sym (values-keyed ps));
  ascends = subst (λ (qs : List Payload). Ascends qs) (sym (values-keyed ps)) up;
})

seen-by : (es : List (Point × Payload)) (ps : List Payload) → es ≡ keyed ps → values_of es ≡ ps
seen-by es ps e = ap values_of e ∙ values-keyed ps

pub looked_up : (es : List (Point × Payload)) (q : Point) → IsKeptRow es → lookup (is_at (point_cmp q)) es ≡ at_point (values_of es) q
looked_up es q is = ap (lookup (is_at (point_cmp q))) is.keys ∙ map-found (values_of es) q

is-placed : (es new : List (Point × Payload)) (p : Payload) → IsKeptRow es → new ≡ insert_entry point_cmp es p.label.point p → new ≡ keyed (placed (values_of es) p)
is-placed es new p is e = e ∙ (ap (λ (xs : List (Point × Payload)). insert_entry point_cmp xs p.label.point p) is.keys ∙ map-placed (values_of es) p)

pub inserted_kept : (es new : List (Point × Payload)) (p : Payload) → IsKeptRow es → new ≡ insert_entry point_cmp es p.label.point p → IsKeptRow new
inserted_kept es new p is e = kept-by new (placed (values_of es) p) (is-placed es new p is e) (placed-ascends (values_of es) p is.ascends)

pub inserted_seen : (es new : List (Point × Payload)) (p : Payload) → IsKeptRow es → new ≡ insert_entry point_cmp es p.label.point p → values_of new ≡ placed (values_of es) p
inserted_seen es new p is e = seen-by new (placed (values_of es) p) (is-placed es new p is e)

is-without : (es new : List (Point × Payload)) (q : Point) → IsKeptRow es → new ≡ remove_entry (is_at (point_cmp q)) es → new ≡ keyed (without (values_of es) q)
is-without es new q is e = e ∙ (ap (remove_entry (is_at (point_cmp q))) is.keys ∙ map-without (values_of es) q is.ascends)

pub removed_kept : (es new : List (Point × Payload)) (q : Point) → IsKeptRow es → new ≡ remove_entry (is_at (point_cmp q)) es → IsKeptRow new
removed_kept es new q is e = kept-by new (without (values_of es) q) (is-without es new q is e) (without-ascends (values_of es) q is.ascends)

pub removed_seen : (es new : List (Point × Payload)) (q : Point) → IsKeptRow es → new ≡ remove_entry (is_at (point_cmp q)) es → values_of new ≡ without (values_of es) q
removed_seen es new q is e = seen-by new (without (values_of es) q) (is-without es new q is e)

-- where the map is empty
pub empty_none : (entries : List (Point × Payload)) (seen : List Payload) (q : Point) → values_of entries ≡ seen → length entries ≡ 0 → None ≡ at_point seen q
empty_none [] seen q e n = ap (λ (ps : List Payload). at_point ps q) e
empty_none (x ∷ entries) seen q e n = absurd (cc)
