-- The pool of all sites, as its calls see it.
use Rattle.std.specs.Prelude.{◌≡◌, ◌<◌, ◌≤◌, ◌+◌, ◌-◌, ◌||◌, ◌&&◌, ◌==◌, ℕ, zero, suc, Bool, true, false, nat_le, List, [], ◌∷◌, ◌++◌, length, replicate, get_or, set, take, map, slice_get, Option, Some, None, is_some, refl}
use Rattle.std.specs.List.{list_any}
use Rattle.std.proofs.Common.{arith, sym, ◌∙◌, ap, subst, inl, inr}
use Rattle.std.proofs.lemmas.Bool.{and_from, and_parts, eq-eqb, eqb-true, or_right}
use Rattle.std.proofs.lemmas.List.{append-nil, get_or_default, map-append, take_more}
use Rattle.std.proofs.lemmas.List.Concat.{flat_map-append}
use Rattle.sat_label.specs.declared.point.Point.{Point}
use Rattle.sat_label.specs.declared.label.Label.{Label}
use Rattle.sat_label.specs.Order.{point_le}
use Rattle.sat_label.specs.Members.{In}
use Rattle.sat_label.specs.Least.{least_label, lesser}
use Rattle.sat_label.proofs.Least.{least-append}
use Rattle.sat_bulk.specs.Payloads.{Payload}
use Rattle.sat_pool.specs.Pool.{Waiting, row_of, all_waiting, labelled, labels_waiting, at_point, waiting_at, is_before, least_before, has_ts_to, has_up_to, placed, without, row_waiting_of, row_after_take_of, after_add, after_take, IsRow, IsPool}
use Rattle.sat_pool.specs.Rows.{IsKeptPool, OfOneSite}
use Rattle.sat_pool.proofs.Firsts.{row-site}
use Rattle.sat_pool.proofs.Labels.{took}
use Rattle.sat_pool.proofs.Members.{in-row, in-own, none-pool, none-all, add-pool, add-length, again-length, take-none, take-pool, take-length}

abbrev waits : List (List Payload) → Waiting
waits rows = record { rows = rows }

-- ---- row by row

pub row_one_site : (rows : List (List Payload)) (i : ℕ) (r : List Payload) → IsPool (record { rows = rows }) → i < length rows → r ≡ get_or rows i r → OfOneSite r
row_one_site rows i r is lt e = (i, subst (IsRow i) (sym (e ∙ get_or_default rows i r [] lt)) (is.each i))

-- the labels of one row more
labels-more : (rows : List (List Payload)) (i : ℕ) (r : List Payload) → i < length rows → r ≡ get_or rows i r → labels_waiting (waits (take (i + 1) rows)) ≡ labels_waiting (waits (take i rows)) ++ map labelled r
labels-more rows i r lt e =
    let all : all_waiting (waits (take (i + 1) rows)) ≡ all_waiting (waits (take i rows)) ++ r =
    ap (λ (rs : List (List Payload)). all_waiting (waits rs)) (take_more rows i r lt)
    ∙ (flat_map-append (λ (row : List Payload). row) (take i rows) (get_or rows i r ∷ [])
    ∙ ap (λ (ps : List Payload). all_waiting (waits (take i rows)) ++ ps) (append-nil (get_or rows i r) ∙ sym e)) in
    ap (map labelled) all ∙ map-append labelled (all_waiting (waits (take i rows))) r

pub least_more : (closes : List (Option Point)) (rows : List (List Payload)) (i : ℕ) (r : List Payload) → i < length rows → r ≡ get_or rows i r →
    lesser (least_before closes (record { rows = take i rows })) (least_label (is_before closes) (map labelled r)) ≡ least_before closes (record { rows = take (i + 1) rows })
least_more closes rows i r lt e =
    sym (ap (least_label (is_before closes)) (labels-more rows i r lt e) ∙ least-append (is_before closes) (labels_waiting (waits (take i rows))) (map labelled r))

any-append : (test : Label → Bool) (xs ys : List Label) → list_any test (xs ++ ys) ≡ (list_any test xs || list_any test ys)
any-append test [] ys = refl
any-append test (x ∷ xs) ys = ap (λ (b : Bool). test x || b) (any-append test xs ys) ∙ assoc (test x) (list_any test xs) (list_any test ys)
  where
    assoc : (a b c : Bool) → (a || (b || c)) ≡ ((a || b) || c)
    assoc true b c = refl
    assoc false b c = refl

pub early_more : (ts : ℕ) (rows : List (List Payload)) (i : ℕ) (r : List Payload) → i < length rows → r ≡ get_or rows i r → has_ts_to ts (record { rows = take i rows }) ≡ false → list_any (λ l. nat_le l.point.ts ts) (map labelled r) ≡ false →
    has_ts_to ts (record { rows = take (i + 1) rows }) ≡ false
early_more ts rows i r lt e before here =
    ap (list_any (λ l. nat_le l.point.ts ts)) (labels-more rows i r lt e)
    ∙ (any-append (λ l. nat_le l.point.ts ts) (labels_waiting (waits (take i rows))) (map labelled r)
    ∙ (ap (λ (b : Bool). b || list_any (λ l. nat_le l.point.ts ts) (map labelled r)) before ∙ here))

-- ---- whether one passes, by members

record Passing (test : Label → Bool) (ps : List Payload) : Type 0 where
  one : Payload
  there : In ps one
  passes : test one.label ≡ true

any-passing : (test : Label → Bool) (ps : List Payload) → list_any test (map labelled ps) ≡ true → Passing test ps
any-passing test [] e = absurd (cc)
any-passing test (p ∷ ps) e = go (test p.label) refl e (any-passing test ps)
  where
    go : (b : Bool) → test p.label ≡ b → (b || list_any test (map labelled ps)) ≡ true → (list_any test (map labelled ps) ≡ true → Passing test ps) → Passing test (p ∷ ps)
    go true w e rest = record { one = p; there = inl refl; passes = w }
    go false w e rest = let k : Passing test ps = rest e in record { one = k.one; there = inr k.there; passes = k.passes }

passing-any : (test : Label → Bool) (ps : List Payload) (x : Payload) → In ps x → test x.label ≡ true → list_any test (map labelled ps) ≡ true
passing-any test [] x i e = absurd i
passing-any test (p ∷ ps) x (inl a) e = ap (λ (b : Bool). b || list_any test (map labelled ps)) (subst (λ (y : Payload). test y.label ≡ true) (sym a) e)
passing-any test (p ∷ ps) x (inr i) e = or_right (test p.label) (list_any test (map labelled ps)) (passing-any test ps x i e)

same-truth : (a b : Bool) → (a ≡ true → b ≡ true) → (b ≡ true → a ≡ true) → a ≡ b
same-truth true b f g = sym (f refl)
same-truth false true f g = g refl
same-truth false false f g = refl

get-own : (rows : List (List Payload)) (i : ℕ) (r : List Payload) → i < length rows → r ≡ get_or rows i r → r ≡ row_of (waits rows) i
get-own rows i r lt e = e ∙ get_or_default rows i r [] lt

pub early_here : (ts : ℕ) (rows : List (List Payload)) (i : ℕ) (r : List Payload) → i < length rows → r ≡ get_or rows i r → list_any (λ l. nat_le l.point.ts ts) (map labelled r) ≡ true → has_ts_to ts (record { rows = rows }) ≡ true
early_here ts rows i r lt e here =
    let k : Passing (λ l. nat_le l.point.ts ts) r = any-passing (λ l. nat_le l.point.ts ts) r here in
    passing-any (λ l. nat_le l.point.ts ts) (all_waiting (waits rows)) k.one (in-row rows i k.one (subst (λ (ps : List Payload). In ps k.one) (get-own rows i r lt e) k.there)) k.passes

-- whether one of a site is up to a point: only the row of that site says
pub up_of_site : (k : ℕ) (q : Point) (w : Waiting) → IsPool w → has_up_to k q w ≡ list_any (λ l. point_le l.point q) (map labelled (row_of w k))
up_of_site k q w is = same-truth (has_up_to k q w) (list_any (λ l. point_le l.point q) (map labelled (row_of w k))) there back
  where
    there : has_up_to k q w ≡ true → list_any (λ l. point_le l.point q) (map labelled (row_of w k)) ≡ true
    there e =
        let x : Passing (λ l. (l.point.site == k) && point_le l.point q) (all_waiting w) = any-passing (λ l. (l.point.site == k) && point_le l.point q) (all_waiting w) e in
        let t : ((x.one.label.point.site == k) ≡ true) × (point_le x.one.label.point q ≡ true) = and_parts (x.one.label.point.site == k) (point_le x.one.label.point q) x.passes in
        passing-any (λ l. point_le l.point q) (row_of w k) x.one (subst (λ (n : ℕ). In (row_of w n) x.one) (eqb-true x.one.label.point.site k t.0) (in-own w x.one is x.there)) t.1

    back : list_any (λ l. point_le l.point q) (map labelled (row_of w k)) ≡ true → has_up_to k q w ≡ true
    back e =
        let x : Passing (λ l. point_le l.point q) (row_of w k) = any-passing (λ l. point_le l.point q) (row_of w k) e in
        passing-any (λ l. (l.point.site == k) && point_le l.point q) (all_waiting w) x.one (in-row w.rows k x.one x.there)
        (and_from (x.one.label.point.site == k) (point_le x.one.label.point q) (eq-eqb x.one.label.point.site k (row-site k (row_of w k) x.one (is.each k) x.there)) x.passes)

-- ---- a row by its number

pub row_some : (rows : List (List Payload)) (k : ℕ) (r : List Payload) → Some r ≡ slice_get rows k → r ≡ row_of (record { rows = rows }) k
row_some [] k r e = absurd (cc)
row_some (x ∷ rows) zero r e = cc
row_some (x ∷ rows) (suc k) r e = row_some rows k r e

pub row_none : (rows : List (List Payload)) (k : ℕ) → None ≡ slice_get rows k → [] ≡ row_of (record { rows = rows }) k
row_none [] k e = refl
row_none (x ∷ rows) zero e = absurd (cc)
row_none (x ∷ rows) (suc k) e = row_none rows k e

-- ---- what is kept

pub none_kept : (n : ℕ) (rows : List (List Payload)) → rows ≡ replicate n [] → IsKeptPool (record { rows = rows }) 0
none_kept n rows e = subst (λ (rs : List (List Payload)). IsKeptPool (waits rs) 0) (sym e) (record { pool = none-pool n; counts = sym (ap (λ (ps : List Payload). length ps) (none-all n)) })

after-place : (rows : List (List Payload)) (p : Payload) (was r : List Payload) → p.label.point.site < length rows → was ≡ get_or rows p.label.point.site was → r ≡ placed was p → waits (set rows p.label.point.site r) ≡ after_add (waits rows) p
after-place rows p was r lt e new = ap (λ (ps : List Payload). waits (set rows p.label.point.site ps)) (new ∙ ap (λ (ps : List Payload). placed ps p) (get-own rows p.label.point.site was lt e))

-- a payload of a new point
pub added_kept : (rows : List (List Payload)) (n : ℕ) (p : Payload) (was r : List Payload) (before : Option Payload) → IsKeptPool (record { rows = rows }) n → p.label.point.site < length rows → was ≡ get_or rows p.label.point.site was → r ≡ placed was p →
    before ≡ at_point was p.label.point → is_some before ≡ false → IsKeptPool (record { rows = set rows p.label.point.site r }) (n + 1)
added_kept rows n p was r (Some x) is lt e new b none = absurd (cc)
added_kept rows n p was r None is lt e new b none =
    let absent : waiting_at (waits rows) p.label.point ≡ None = ap (λ (ps : List Payload). at_point ps p.label.point) (sym (get-own rows p.label.point.site was lt e)) ∙ sym b in
    subst (λ (w : Waiting). IsKeptPool w (n + 1)) (sym (after-place rows p was r lt e new))
    (record { pool = add-pool (waits rows) p is.pool lt; counts = ap (λ (m : ℕ). m + 1) is.counts ∙ sym (add-length (waits rows) p lt absent) })

-- and in the place of another
pub again_kept : (rows : List (List Payload)) (n : ℕ) (p : Payload) (was r : List Payload) (before : Option Payload) → IsKeptPool (record { rows = rows }) n → p.label.point.site < length rows → was ≡ get_or rows p.label.point.site was → r ≡ placed was p →
    before ≡ at_point was p.label.point → is_some before ≡ true → IsKeptPool (record { rows = set rows p.label.point.site r }) n
again_kept rows n p was r None is lt e new b none = absurd (cc)
again_kept rows n p was r (Some x) is lt e new b none =
    let there : waiting_at (waits rows) p.label.point ≡ Some x = ap (λ (ps : List Payload). at_point ps p.label.point) (sym (get-own rows p.label.point.site was lt e)) ∙ sym b in
    subst (λ (w : Waiting). IsKeptPool w n) (sym (after-place rows p was r lt e new))
    (record { pool = add-pool (waits rows) p is.pool lt; counts = is.counts ∙ sym (again-length (waits rows) p x is.pool lt there) })

after-gone : (rows : List (List Payload)) (q : Point) (was r : List Payload) → q.site < length rows → was ≡ get_or rows q.site was → r ≡ without was q → waits (set rows q.site r) ≡ after_take (waits rows) q
after-gone rows q was r lt e new = ap (λ (ps : List Payload). waits (set rows q.site ps)) (new ∙ ap (λ (ps : List Payload). without ps q) (get-own rows q.site was lt e))

at-own : (rows : List (List Payload)) (q : Point) (was : List Payload) (o : Option Payload) → q.site < length rows → was ≡ get_or rows q.site was → o ≡ at_point was q → waiting_at (waits rows) q ≡ o
at-own rows q was o lt e found = ap (λ (ps : List Payload). at_point ps q) (sym (get-own rows q.site was lt e)) ∙ sym found

-- where none is taken
pub stays_kept : (rows : List (List Payload)) (n : ℕ) (q : Point) (was r : List Payload) → IsKeptPool (record { rows = rows }) n → q.site < length rows → was ≡ get_or rows q.site was → r ≡ without was q → None ≡ at_point was q →
    IsKeptPool (record { rows = set rows q.site r }) n
stays_kept rows n q was r is lt e new none =
    subst (λ (w : Waiting). IsKeptPool w n) (sym (after-gone rows q was r lt e new ∙ take-none (waits rows) q (at-own rows q was None lt e none))) is

pub one_waits : (rows : List (List Payload)) (n : ℕ) (q : Point) (was : List Payload) (p : Payload) → IsKeptPool (record { rows = rows }) n → q.site < length rows → was ≡ get_or rows q.site was → Some p ≡ at_point was q → 1 ≤ n
one_waits rows n q was p is lt e some =
    let k : length (all_waiting (after_take (waits rows) q)) + 1 ≡ length (all_waiting (waits rows)) = take-length (waits rows) q p is.pool (at-own rows q was (Some p) lt e some) in
    let c : n ≡ length (all_waiting (waits rows)) = is.counts in
    omega arith

pub taken_kept : (rows : List (List Payload)) (n : ℕ) (q : Point) (was r : List Payload) (p : Payload) → IsKeptPool (record { rows = rows }) n → q.site < length rows → was ≡ get_or rows q.site was → r ≡ without was q → Some p ≡ at_point was q →
    IsKeptPool (record { rows = set rows q.site r }) (n - 1)
taken_kept rows n q was r p is lt e new some =
    let k : length (all_waiting (after_take (waits rows) q)) + 1 ≡ length (all_waiting (waits rows)) = take-length (waits rows) q p is.pool (at-own rows q was (Some p) lt e some) in
    let c : n ≡ length (all_waiting (waits rows)) = is.counts in
    subst (λ (w : Waiting). IsKeptPool w (n - 1)) (sym (after-gone rows q was r lt e new)) (record { pool = take-pool (waits rows) q is.pool; counts = omega arith })

-- the same by labels
pub label_waits : (rows : List (List Payload)) (n : ℕ) (l : Label) (was r : List Payload) (p : Payload) → IsKeptPool (record { rows = rows }) n → l.point.site < length rows → was ≡ get_or rows l.point.site was → r ≡ row_after_take_of was l (row_waiting_of was l) → Some p ≡ row_waiting_of was l → 1 ≤ n
label_waits rows n l was r p is lt e new some = one_waits rows n l.point was p is lt e (took was r l p some new).0

pub label_taken_kept : (rows : List (List Payload)) (n : ℕ) (l : Label) (was r : List Payload) (p : Payload) → IsKeptPool (record { rows = rows }) n → l.point.site < length rows → was ≡ get_or rows l.point.site was → r ≡ row_after_take_of was l (row_waiting_of was l) → Some p ≡ row_waiting_of was l →
    IsKeptPool (record { rows = set rows l.point.site r }) (n - 1)
label_taken_kept rows n l was r p is lt e new some =
    let k : (Some p ≡ at_point was l.point) × (r ≡ without was l.point) = took was r l p some new in
    taken_kept rows n l.point was r p is lt e k.1 k.0
