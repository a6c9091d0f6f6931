-- Which updates wait, and how many, after one comes or is taken.
use Rattle.std.specs.Prelude.{◌≡◌, ◌⊎◌, ◌<◌, ◌≤◌, ◌+◌, ◌↔◌, ℕ, zero, suc, Bool, true, false, not, cond, List, [], ◌∷◌, ◌++◌, length, get_or, set, Some, None, if◌then◌else◌, refl}
use Rattle.std.proofs.Common.{arith, sym, ◌∙◌, ap, subst, inl, inr}
use Rattle.std.proofs.lemmas.Bool.{cases_eq, cases_lt, not-true, not_from_false, true≢false}
use Rattle.std.proofs.lemmas.Bool.Decides.{nat_tests}
use Rattle.std.proofs.lemmas.List.{get_or-set_same, get_or-set_other, get_or_past, length-set, length-append}
use Rattle.sat_label.specs.declared.point.Point.{Point}
use Rattle.sat_label.specs.Order.{point_lt, point_eq}
use Rattle.sat_label.specs.Members.{In}
use Rattle.sat_label.proofs.Members.{In-left, In-right, In-parts, In-filter, into-filter}
use Rattle.sat_label.proofs.Orders.{lt-not_eq, same-point}
use Rattle.sat_bulk.specs.Payloads.{Payload}
use Rattle.sat_pool.specs.Pool.{Waiting, none_waiting, row_of, all_waiting, at_point, waiting_at, placed, without, after_add, after_take, IsRow, IsPool}
use Rattle.sat_pool.specs.Rows.{Ascends}
use Rattle.sat_pool.proofs.Keyed.{placed-in, placed-ascends, without-ascends, without-none, without-others}
use Rattle.sat_pool.proofs.Firsts.{row-site}

some-is : (x y : Payload) → Some x ≡ Some y → x ≡ y
some-is x y e = cc

-- ---- one site

pub row-ascends : (k : ℕ) (ps : List Payload) → IsRow k ps → Ascends ps
row-ascends k [] is = tt
row-ascends k (p ∷ ps) is = (is.1, row-ascends k ps is.2)

row-from : (k : ℕ) (ps : List Payload) → Ascends ps → ((x : Payload) → In ps x → x.label.point.site ≡ k) → IsRow k ps
row-from k [] up f = tt
row-from k (p ∷ ps) up f = (f p (inl refl), up.0, row-from k ps up.1 (λ x i. f x (inr i)))

row-placed : (k : ℕ) (ps : List Payload) (p : Payload) → IsRow k ps → p.label.point.site ≡ k → IsRow k (placed ps p)
row-placed k ps p is e = row-from k (placed ps p) (placed-ascends ps p (row-ascends k ps is)) (λ x i. elim (placed-in ps p x i) [
  | inl a ↦ subst (λ (y : Payload). y.label.point.site ≡ k) a e
  | inr b ↦ row-site k ps x is b
])

pub without-in : (ps : List Payload) (q : Point) (x : Payload) → In (without ps q) x → In ps x × (point_eq x.label.point q ≡ false)
without-in ps q x i =
    let m : In ps x × (not (point_eq x.label.point q) ≡ true) = In-filter (λ (y : Payload). not (point_eq y.label.point q)) ps x i in
    (m.0, not-true (point_eq x.label.point q) m.1)

pub in-without : (ps : List Payload) (q : Point) (x : Payload) → In ps x → point_eq x.label.point q ≡ false → In (without ps q) x
in-without ps q x i e = into-filter (λ (y : Payload). not (point_eq y.label.point q)) ps x i (not_from_false (point_eq x.label.point q) e)

row-without : (k : ℕ) (ps : List Payload) (q : Point) → IsRow k ps → IsRow k (without ps q)
row-without k ps q is = row-from k (without ps q) (without-ascends ps q (row-ascends k ps is)) (λ x i. row-site k ps x is (without-in ps q x i).0)

pub at-in : (ps : List Payload) (q : Point) (p : Payload) → at_point ps q ≡ Some p → In ps p × (p.label.point ≡ q)
at-in [] q p e = absurd (cc)
at-in (x ∷ ps) q p e = go (point_eq x.label.point q) refl e (at-in ps q p)
  where
    go : (b : Bool) → point_eq x.label.point q ≡ b → (if b then Some x else at_point ps q) ≡ Some p → (at_point ps q ≡ Some p → In ps p × (p.label.point ≡ q)) → In (x ∷ ps) p × (p.label.point ≡ q)
    go true w e rest =
        let s : x ≡ p = some-is x p e in
        (inl s, subst (λ (y : Payload). y.label.point ≡ q) s (same-point x.label.point q w))
    go false w e rest = let k : In ps p × (p.label.point ≡ q) = rest e in (inr k.0, k.1)

pub point-self : (p : Point) → point_eq p p ≡ true
point-self p = grind (arith, nat_tests)

pub in-at : (ps : List Payload) (p : Payload) → Ascends ps → In ps p → at_point ps p.label.point ≡ Some p
in-at [] p up i = absurd i
in-at (x ∷ ps) p up (inl e) =
    subst (λ (y : Payload). at_point (x ∷ ps) y.label.point ≡ Some y) e
    (ap (λ (b : Bool). if b then Some x else at_point ps x.label.point) (point-self x.label.point))
in-at (x ∷ ps) p up (inr i) =
    ap (λ (b : Bool). if b then Some x else at_point ps p.label.point) (lt-not_eq x.label.point p.label.point (up.0 p i))
    ∙ in-at ps p up.1 i

pub none-at : (ps : List Payload) (q : Point) → at_point ps q ≡ None → (x : Payload) → In ps x → point_eq x.label.point q ≡ false
none-at [] q e x i = absurd i
none-at (y ∷ ps) q e x i = go (point_eq y.label.point q) refl e i (none-at ps q)
  where
    go : (b : Bool) → point_eq y.label.point q ≡ b → (if b then Some y else at_point ps q) ≡ None → In (y ∷ ps) x → (at_point ps q ≡ None → (x : Payload) → In ps x → point_eq x.label.point q ≡ false) → point_eq x.label.point q ≡ false
    go true w e i rest = absurd (cc)
    go false w e (inl a) rest = subst (λ (z : Payload). point_eq z.label.point q ≡ false) a w
    go false w e (inr j) rest = rest e x j

pub in-placed-new : (ps : List Payload) (p : Payload) → In (placed ps p) p
in-placed-new [] p = inl refl
in-placed-new (q ∷ qs) p = go (point_lt p.label.point q.label.point) (point_eq p.label.point q.label.point) (in-placed-new qs p)
  where
    go : (t u : Bool) → In (placed qs p) p → In (if t then p ∷ q ∷ qs else (if u then p ∷ qs else q ∷ placed qs p)) p
    go true u rest = inl refl
    go false true rest = inl refl
    go false false rest = inr rest

pub eq-turned : (p q : Point) → point_eq p q ≡ point_eq q p
eq-turned p q = grind (arith, nat_tests)

pub in-placed-old : (ps : List Payload) (p x : Payload) → at_point ps p.label.point ≡ None → In ps x → In (placed ps p) x
in-placed-old [] p x e i = absurd i
in-placed-old (q ∷ qs) p x e i = go (point_lt p.label.point q.label.point) (point_eq p.label.point q.label.point) refl i (in-placed-old qs p x (after e))
  where
    first : point_eq q.label.point p.label.point ≡ false
    first = none-at (q ∷ qs) p.label.point e q (inl refl)

    after : at_point (q ∷ qs) p.label.point ≡ None → at_point qs p.label.point ≡ None
    after w = sym (ap (λ (b : Bool). if b then Some q else at_point qs p.label.point) first) ∙ w

    go : (t u : Bool) → point_eq p.label.point q.label.point ≡ u → In (q ∷ qs) x → (In qs x → In (placed qs p) x) → In (if t then p ∷ q ∷ qs else (if u then p ∷ qs else q ∷ placed qs p)) x
    go true u w i rest = inr i
    go false true w i rest = absurd (true≢false (sym w ∙ (eq-turned p.label.point q.label.point ∙ first)))
    go false false w (inl a) rest = inl a
    go false false w (inr j) rest = inr (rest j)

-- ---- how many of one site

length-new : (ps : List Payload) (p : Payload) → at_point ps p.label.point ≡ None → length (placed ps p) ≡ suc (length ps)
length-new [] p e = refl
length-new (q ∷ qs) p e = go (point_lt p.label.point q.label.point) (point_eq p.label.point q.label.point) refl (length-new qs p (after e))
  where
    first : point_eq q.label.point p.label.point ≡ false
    first = none-at (q ∷ qs) p.label.point e q (inl refl)

    after : at_point (q ∷ qs) p.label.point ≡ None → at_point qs p.label.point ≡ None
    after w = sym (ap (λ (b : Bool). if b then Some q else at_point qs p.label.point) first) ∙ w

    go : (t u : Bool) → point_eq p.label.point q.label.point ≡ u → length (placed qs p) ≡ suc (length qs) → length (if t then p ∷ q ∷ qs else (if u then p ∷ qs else q ∷ placed qs p)) ≡ suc (suc (length qs))
    go true u w rest = refl
    go false true w rest = absurd (true≢false (sym w ∙ (eq-turned p.label.point q.label.point ∙ first)))
    go false false w rest = ap (λ (n : ℕ). suc n) rest

eq-not_lt : (p q r : Point) → point_lt p q ≡ true → point_lt q r ≡ true → point_eq r p ≡ false
eq-not_lt p q r a b = grind (arith, nat_tests)

lt-eq-false : (p q : Point) → point_lt p q ≡ true → point_eq q p ≡ false
lt-eq-false p q a = grind (arith, nat_tests)

-- a payload in the place of another
length-again : (ps : List Payload) (p x : Payload) → Ascends ps → at_point ps p.label.point ≡ Some x → length (placed ps p) ≡ length ps
length-again [] p x up e = absurd (cc)
length-again (q ∷ qs) p x up e =
    let i : In (q ∷ qs) x × (x.label.point ≡ p.label.point) = at-in (q ∷ qs) p.label.point x e in
    go (point_lt p.label.point q.label.point) (point_eq p.label.point q.label.point) refl refl i.0 i.1 (length-again qs p x up.1)
  where
    go : (t u : Bool) → point_lt p.label.point q.label.point ≡ t → point_eq p.label.point q.label.point ≡ u → In (q ∷ qs) x → x.label.point ≡ p.label.point → (at_point qs p.label.point ≡ Some x → length (placed qs p) ≡ length qs) →
        length (if t then p ∷ q ∷ qs else (if u then p ∷ qs else q ∷ placed qs p)) ≡ suc (length qs)
    go true u v w (inl a) same rest = absurd (true≢false (sym (point-self p.label.point) ∙ (ap (λ (r : Point). point_eq r p.label.point) (sym same ∙ ap (λ (y : Payload). y.label.point) (sym a)) ∙ lt-eq-false p.label.point q.label.point v)))
    go true u v w (inr j) same rest = absurd (true≢false (sym (point-self p.label.point) ∙ (ap (λ (r : Point). point_eq r p.label.point) (sym same) ∙ eq-not_lt p.label.point q.label.point x.label.point v (up.0 x j))))
    go false true v w i same rest = refl
    go false false v w (inl a) same rest = absurd (true≢false (sym (point-self p.label.point) ∙ (ap (λ (r : Point). point_eq p.label.point r) (sym same ∙ ap (λ (y : Payload). y.label.point) (sym a)) ∙ w)))
    go false false v w (inr j) same rest = ap (λ (n : ℕ). suc n) (rest (subst (λ (r : Point). at_point qs r ≡ Some x) same (in-at qs x up.1 j)))

length-without : (ps : List Payload) (q : Point) (x : Payload) → Ascends ps → at_point ps q ≡ Some x → suc (length (without ps q)) ≡ length ps
length-without [] q x up e = absurd (cc)
length-without (p ∷ ps) q x up e = go (point_eq p.label.point q) refl e (length-without ps q x up.1)
  where
    go : (b : Bool) → point_eq p.label.point q ≡ b → (if b then Some p else at_point ps q) ≡ Some x → (at_point ps q ≡ Some x → suc (length (without ps q)) ≡ length ps) → suc (length (cond (not b) (p ∷ without ps q) (without ps q))) ≡ suc (length ps)
    go true w e rest = ap (λ (ys : List Payload). suc (length ys)) (without-others p ps q up w)
    go false w e rest = ap (λ (n : ℕ). suc n) (rest e)

-- ---- all sites

abbrev waits : List (List Payload) → Waiting
waits rows = record { rows = rows }

pub in-row : (rows : List (List Payload)) (k : ℕ) (x : Payload) → In (get_or rows k []) x → In (all_waiting (waits rows)) x
in-row [] k x i = absurd i
in-row (r ∷ rows) zero x i = In-left r (all_waiting (waits rows)) x i
in-row (r ∷ rows) (suc k) x i = In-right r (all_waiting (waits rows)) x (in-row rows k x i)

pub record Place (rows : List (List Payload)) (x : Payload) : Type 0 where
  pub row : ℕ
  pub there : In (get_or rows row []) x

pub row-in : (rows : List (List Payload)) (x : Payload) → In (all_waiting (waits rows)) x → Place rows x
row-in [] x i = absurd i
row-in (r ∷ rows) x i = elim (In-parts r (all_waiting (waits rows)) x i) [
  | inl a ↦ record { row = zero; there = a }
  | inr b ↦ (let k : Place rows x = row-in rows x b in record { row = suc k.row; there = k.there })
]

-- what waits, waits in the row of its site
pub in-own : (w : Waiting) (x : Payload) → IsPool w → In (all_waiting w) x → In (row_of w x.label.point.site) x
in-own w x is i =
    let k : Place w.rows x = row-in w.rows x i in
    subst (λ (n : ℕ). In (row_of w n) x) (sym (row-site k.row (row_of w k.row) x (is.each k.row) k.there)) k.there

-- how many there are with another row
pub length-rows : (rows : List (List Payload)) (k : ℕ) (r : List Payload) → k < length rows → length (all_waiting (waits (set rows k r))) + length (get_or rows k []) ≡ length (all_waiting (waits rows)) + length r
length-rows [] k r lt = absurd (omega arith)
length-rows (x ∷ rows) zero r lt =
    let a : length (r ++ all_waiting (waits rows)) ≡ length r + length (all_waiting (waits rows)) = length-append r (all_waiting (waits rows)) in
    let b : length (x ++ all_waiting (waits rows)) ≡ length x + length (all_waiting (waits rows)) = length-append x (all_waiting (waits rows)) in
    omega arith
length-rows (x ∷ rows) (suc k) r lt =
    let a : length (x ++ all_waiting (waits (set rows k r))) ≡ length x + length (all_waiting (waits (set rows k r))) = length-append x (all_waiting (waits (set rows k r))) in
    let b : length (x ++ all_waiting (waits rows)) ≡ length x + length (all_waiting (waits rows)) = length-append x (all_waiting (waits rows)) in
    let c : length (all_waiting (waits (set rows k r))) + length (get_or rows k []) ≡ length (all_waiting (waits rows)) + length r = length-rows rows k r (omega arith) in
    omega arith

set-row : (rows : List (List Payload)) (k : ℕ) (r : List Payload) → IsPool (waits rows) → IsRow k r → k < length rows → IsPool (waits (set rows k r))
set-row rows k r is row lt = record { each = λ n. go n (cases_eq n k) }
  where
    go : (n : ℕ) → (n ≡ k) ⊎ (n ≡ k → ⊥) → IsRow n (get_or (set rows k r) n [])
    go n (inl e) = subst (λ (ps : List Payload). IsRow n ps) (sym (ap (λ (m : ℕ). get_or (set rows k r) m []) e ∙ get_or-set_same rows k r [] lt)) (subst (λ (m : ℕ). IsRow m r) (sym e) row)
    go n (inr ne) = subst (λ (ps : List Payload). IsRow n ps) (sym (get_or-set_other rows k n r [] ne)) (is.each n)

pub set-past : (rows : List (List Payload)) (k : ℕ) (r : List Payload) → length rows ≤ k → set rows k r ≡ rows
set-past [] k r le = refl
set-past (x ∷ rows) zero r le = absurd (omega arith)
set-past (x ∷ rows) (suc k) r le = ap (λ (ys : List (List Payload)). x ∷ ys) (set-past rows k r (omega arith))

pub set-same : (rows : List (List Payload)) (k : ℕ) → set rows k (get_or rows k []) ≡ rows
set-same [] k = refl
set-same (x ∷ rows) zero = refl
set-same (x ∷ rows) (suc k) = ap (λ (ys : List (List Payload)). x ∷ ys) (set-same rows k)

-- ---- nothing waits

pub none-rows : (n k : ℕ) → row_of (none_waiting n) k ≡ []
none-rows zero k = refl
none-rows (suc n) zero = refl
none-rows (suc n) (suc k) = none-rows n k

pub none-pool : (n : ℕ) → IsPool (none_waiting n)
none-pool n = record { each = λ k. subst (λ (ps : List Payload). IsRow k ps) (sym (none-rows n k)) tt }

pub none-all : (n : ℕ) → all_waiting (none_waiting n) ≡ []
none-all zero = refl
none-all (suc n) = none-all n

-- ---- by points

pub found-in : (w : Waiting) (q : Point) (p : Payload) → waiting_at w q ≡ Some p → In (all_waiting w) p × (p.label.point ≡ q)
found-in w q p e =
    let k : In (row_of w q.site) p × (p.label.point ≡ q) = at-in (row_of w q.site) q p e in
    (in-row w.rows q.site p k.0, k.1)

pub in-found : (w : Waiting) (p : Payload) → IsPool w → In (all_waiting w) p → waiting_at w p.label.point ≡ Some p
in-found w p is i = in-at (row_of w p.label.point.site) p (row-ascends p.label.point.site (row_of w p.label.point.site) (is.each p.label.point.site)) (in-own w p is i)

-- ---- one more waits

pub add-pool : (w : Waiting) (p : Payload) → IsPool w → p.label.point.site < length w.rows → IsPool (after_add w p)
add-pool w p is lt = set-row w.rows p.label.point.site (placed (row_of w p.label.point.site) p) is (row-placed p.label.point.site (row_of w p.label.point.site) p (is.each p.label.point.site) refl) lt

pub add-sites : (w : Waiting) (p : Payload) → length (after_add w p).rows ≡ length w.rows
add-sites w p = length-set w.rows p.label.point.site (placed (row_of w p.label.point.site) p)

add-row : (w : Waiting) (p : Payload) → p.label.point.site < length w.rows → row_of (after_add w p) p.label.point.site ≡ placed (row_of w p.label.point.site) p
add-row w p lt = get_or-set_same w.rows p.label.point.site (placed (row_of w p.label.point.site) p) [] lt

add-other : (w : Waiting) (p : Payload) (k : ℕ) → (k ≡ p.label.point.site → ⊥) → row_of (after_add w p) k ≡ row_of w k
add-other w p k ne = get_or-set_other w.rows p.label.point.site k (placed (row_of w p.label.point.site) p) [] ne

pub add-in : (w : Waiting) (p q : Payload) → IsPool w → p.label.point.site < length w.rows → In (all_waiting (after_add w p)) q → (q ≡ p) ⊎ In (all_waiting w) q
add-in w p q is lt i = go (cases_eq q.label.point.site p.label.point.site) (in-own (after_add w p) q (add-pool w p is lt) i)
  where
    go : (q.label.point.site ≡ p.label.point.site) ⊎ (q.label.point.site ≡ p.label.point.site → ⊥) → In (row_of (after_add w p) q.label.point.site) q → (q ≡ p) ⊎ In (all_waiting w) q
    go (inl e) j = elim (placed-in (row_of w p.label.point.site) p q (subst (λ (ps : List Payload). In ps q) (ap (λ (k : ℕ). row_of (after_add w p) k) e ∙ add-row w p lt) j)) [
      | inl a ↦ inl (sym a)
      | inr b ↦ inr (in-row w.rows p.label.point.site q b)
    ]
    go (inr ne) j = inr (in-row w.rows q.label.point.site q (subst (λ (ps : List Payload). In ps q) (add-other w p q.label.point.site ne) j))

pub in-add : (w : Waiting) (p q : Payload) → IsPool w → p.label.point.site < length w.rows → waiting_at w p.label.point ≡ None → (q ≡ p) ⊎ In (all_waiting w) q → In (all_waiting (after_add w p)) q
in-add w p q is lt none (inl e) =
    in-row (after_add w p).rows p.label.point.site q
    (subst (λ (ps : List Payload). In ps q) (sym (add-row w p lt)) (subst (λ (x : Payload). In (placed (row_of w p.label.point.site) p) x) (sym e) (in-placed-new (row_of w p.label.point.site) p)))
in-add w p q is lt none (inr i) = go (cases_eq q.label.point.site p.label.point.site) (in-own w q is i)
  where
    go : (q.label.point.site ≡ p.label.point.site) ⊎ (q.label.point.site ≡ p.label.point.site → ⊥) → In (row_of w q.label.point.site) q → In (all_waiting (after_add w p)) q
    go (inl e) j =
        in-row (after_add w p).rows p.label.point.site q
        (subst (λ (ps : List Payload). In ps q) (sym (add-row w p lt)) (in-placed-old (row_of w p.label.point.site) p q none (subst (λ (k : ℕ). In (row_of w k) q) e j)))
    go (inr ne) j = in-row (after_add w p).rows q.label.point.site q (subst (λ (ps : List Payload). In ps q) (sym (add-other w p q.label.point.site ne)) j)

pub add-members : (w : Waiting) (p q : Payload) → IsPool w → p.label.point.site < length w.rows → waiting_at w p.label.point ≡ None → In (all_waiting (after_add w p)) q ↔ ((q ≡ p) ⊎ In (all_waiting w) q)
add-members w p q is lt none = (add-in w p q is lt, in-add w p q is lt none)

pub add-length : (w : Waiting) (p : Payload) → p.label.point.site < length w.rows → waiting_at w p.label.point ≡ None → length (all_waiting (after_add w p)) ≡ length (all_waiting w) + 1
add-length w p lt none =
    let a : length (placed (row_of w p.label.point.site) p) ≡ suc (length (row_of w p.label.point.site)) = length-new (row_of w p.label.point.site) p none in
    let b : length (all_waiting (after_add w p)) + length (row_of w p.label.point.site) ≡ length (all_waiting w) + length (placed (row_of w p.label.point.site) p) =
    length-rows w.rows p.label.point.site (placed (row_of w p.label.point.site) p) lt in
    omega arith

-- in the place of another
pub again-length : (w : Waiting) (p x : Payload) → IsPool w → p.label.point.site < length w.rows → waiting_at w p.label.point ≡ Some x → length (all_waiting (after_add w p)) ≡ length (all_waiting w)
again-length w p x is lt some =
    let a : length (placed (row_of w p.label.point.site) p) ≡ length (row_of w p.label.point.site) =
    length-again (row_of w p.label.point.site) p x (row-ascends p.label.point.site (row_of w p.label.point.site) (is.each p.label.point.site)) some in
    let b : length (all_waiting (after_add w p)) + length (row_of w p.label.point.site) ≡ length (all_waiting w) + length (placed (row_of w p.label.point.site) p) =
    length-rows w.rows p.label.point.site (placed (row_of w p.label.point.site) p) lt in
    omega arith

-- ---- one is taken

-- where none waits at the point, all is as before
pub take-none : (w : Waiting) (q : Point) → waiting_at w q ≡ None → after_take w q ≡ w
take-none w q none =
    ap (λ (r : List Payload). waits (set w.rows q.site r)) (without-none (row_of w q.site) q (none-at (row_of w q.site) q none))
    ∙ ap (λ (rows : List (List Payload)). waits rows) (set-same w.rows q.site)

take-past : (w : Waiting) (q : Point) → length w.rows ≤ q.site → after_take w q ≡ w
take-past w q le = ap (λ (rows : List (List Payload)). waits rows) (set-past w.rows q.site (without (row_of w q.site) q) le)

pub take-pool : (w : Waiting) (q : Point) → IsPool w → IsPool (after_take w q)
take-pool w q is = elim (cases_lt q.site (length w.rows)) [
  | inl lt ↦ set-row w.rows q.site (without (row_of w q.site) q) is (row-without q.site (row_of w q.site) q (is.each q.site)) lt
  | inr le ↦ subst IsPool (sym (take-past w q le)) is
]

pub take-sites : (w : Waiting) (q : Point) → length (after_take w q).rows ≡ length w.rows
take-sites w q = length-set w.rows q.site (without (row_of w q.site) q)

take-row : (w : Waiting) (q : Point) → row_of (after_take w q) q.site ≡ without (row_of w q.site) q
take-row w q = elim (cases_lt q.site (length w.rows)) [
  | inl lt ↦ get_or-set_same w.rows q.site (without (row_of w q.site) q) [] lt
  | inr le ↦ ap (λ (v : Waiting). row_of v q.site) (take-past w q le) ∙ (get_or_past w.rows q.site [] le ∙ ap (λ (ps : List Payload). without ps q) (sym (get_or_past w.rows q.site [] le)))
]

take-other : (w : Waiting) (q : Point) (k : ℕ) → (k ≡ q.site → ⊥) → row_of (after_take w q) k ≡ row_of w k
take-other w q k ne = get_or-set_other w.rows q.site k (without (row_of w q.site) q) [] ne

sites-differ : (p q : Point) → (p.site ≡ q.site → ⊥) → point_eq p q ≡ false
sites-differ p q ne = grind (arith, nat_tests)

pub take-in : (w : Waiting) (q : Point) (x : Payload) → IsPool w → In (all_waiting (after_take w q)) x → In (all_waiting w) x × (point_eq x.label.point q ≡ false)
take-in w q x is i = go (cases_eq x.label.point.site q.site) (in-own (after_take w q) x (take-pool w q is) i)
  where
    go : (x.label.point.site ≡ q.site) ⊎ (x.label.point.site ≡ q.site → ⊥) → In (row_of (after_take w q) x.label.point.site) x → In (all_waiting w) x × (point_eq x.label.point q ≡ false)
    go (inl e) j =
        let k : In (row_of w q.site) x × (point_eq x.label.point q ≡ false) =
        without-in (row_of w q.site) q x (subst (λ (ps : List Payload). In ps x) (ap (λ (n : ℕ). row_of (after_take w q) n) e ∙ take-row w q) j) in
        (in-row w.rows q.site x k.0, k.1)
    go (inr ne) j = (in-row w.rows x.label.point.site x (subst (λ (ps : List Payload). In ps x) (take-other w q x.label.point.site ne) j), sites-differ x.label.point q ne)

pub in-take : (w : Waiting) (q : Point) (x : Payload) → IsPool w → In (all_waiting w) x × (point_eq x.label.point q ≡ false) → In (all_waiting (after_take w q)) x
in-take w q x is i = go (cases_eq x.label.point.site q.site) (in-own w x is i.0)
  where
    go : (x.label.point.site ≡ q.site) ⊎ (x.label.point.site ≡ q.site → ⊥) → In (row_of w x.label.point.site) x → In (all_waiting (after_take w q)) x
    go (inl e) j =
        in-row (after_take w q).rows q.site x
        (subst (λ (ps : List Payload). In ps x) (sym (take-row w q)) (in-without (row_of w q.site) q x (subst (λ (k : ℕ). In (row_of w k) x) e j) i.1))
    go (inr ne) j = in-row (after_take w q).rows x.label.point.site x (subst (λ (ps : List Payload). In ps x) (sym (take-other w q x.label.point.site ne)) j)

pub take-members : (w : Waiting) (q : Point) (x : Payload) → IsPool w → In (all_waiting (after_take w q)) x ↔ (In (all_waiting w) x × (point_eq x.label.point q ≡ false))
take-members w q x is = (take-in w q x is, in-take w q x is)

site-within : (w : Waiting) (q : Point) (p : Payload) → waiting_at w q ≡ Some p → q.site < length w.rows
site-within w q p some = elim (cases_lt q.site (length w.rows)) [
  | inl lt ↦ lt
  | inr le ↦ absurd (let z : waiting_at w q ≡ None = ap (λ (ps : List Payload). at_point ps q) (get_or_past w.rows q.site [] le) in cc)
]

pub take-length : (w : Waiting) (q : Point) (p : Payload) → IsPool w → waiting_at w q ≡ Some p → length (all_waiting (after_take w q)) + 1 ≡ length (all_waiting w)
take-length w q p is some =
    let a : suc (length (without (row_of w q.site) q)) ≡ length (row_of w q.site) = length-without (row_of w q.site) q p (row-ascends q.site (row_of w q.site) (is.each q.site)) some in
    let b : length (all_waiting (after_take w q)) + length (row_of w q.site) ≡ length (all_waiting w) + length (without (row_of w q.site) q) =
    length-rows w.rows q.site (without (row_of w q.site) q) (site-within w q p some) in
    omega arith
