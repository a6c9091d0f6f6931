-- The queue of a gear: where a point is found in it, and what waits after one comes or is taken.
use Rattle.std.specs.Prelude.{◌≡◌, ◌⊎◌, ◌<◌, ◌≤◌, ◌+◌, ◌-◌, ℕ, zero, suc, Bool, true, false, not, cond, List, [], ◌∷◌, ◌++◌, length, get_or, drop, remove, slice_get, Option, Some, None, is_some, option_copied, ◌↔◌, if◌then◌else◌, refl}
use Rattle.std.specs.Bool.{OnTrue}
use Rattle.std.specs.Option.{IfNone, IfSome, OnSome}
use Rattle.std.proofs.Common.{arith, sym, ◌∙◌, ap, subst, inl, inr, Bor}
use Rattle.std.proofs.lemmas.Bool.{cases_lt, false_from_ne_true}
use Rattle.sat_label.specs.declared.point.Point.{Point}
use Rattle.sat_label.specs.declared.label.Label.{Label}
use Rattle.sat_label.specs.Order.{point_lt, point_eq}
use Rattle.sat_label.specs.Members.{In}
use Rattle.sat_label.proofs.Members.{In-parts}
use Rattle.sat_label.proofs.Orders.{lt-not_eq, point_lt-trans, same-label, same-point}
use Rattle.sat_bulk.specs.Payloads.{Payload}
use Rattle.sat_pool.specs.Pool.{at_point, without}
use Rattle.sat_pool.specs.Rows.{Ascends}
use Rattle.sat_pool.specs.Places.{if_at, is_labelled, place_of, AreBelow}
use Rattle.sat_pool.proofs.Keyed.{without-ascends, without-none, without-others}
use Rattle.sat_pool.proofs.Members.{none-at, point-self}

-- ---- the place of a point

there : (ps : List Payload) (m : ℕ) (x : Payload) → m < length ps → x ≡ get_or ps m x → In ps x
there [] m x lt e = absurd (omega arith)
there (p ∷ ps) zero x lt e = inl (sym e)
there (p ∷ ps) (suc m) x lt e = inr (there ps m x (omega arith) e)

-- it is behind each payload that is below
pub place_past : (ps : List Payload) (m : ℕ) (x : Payload) (q : Point) → Ascends ps → m < length ps → x ≡ get_or ps m x → point_lt x.label.point q ≡ true → m + 1 ≤ place_of ps q
place_past [] m x q up lt e b = absurd (omega arith)
place_past (p ∷ ps) zero x q up lt e b = go (point_lt p.label.point q) (subst (λ (t : Payload). point_lt t.label.point q ≡ true) e b)
  where
    go : (c : Bool) → c ≡ true → 0 + 1 ≤ (if c then suc (place_of ps q) else zero)
    go true w = omega arith
    go false w = absurd (cc)
place_past (p ∷ ps) (suc m) x q up lt e b = go (point_lt p.label.point q) (point_lt-trans p.label.point x.label.point q (up.0 x (there ps m x (omega arith) e)) b) (place_past ps m x q up.1 (omega arith) e b)
  where
    go : (c : Bool) → c ≡ true → m + 1 ≤ place_of ps q → suc m + 1 ≤ (if c then suc (place_of ps q) else zero)
    go true w k = omega arith
    go false w k = absurd (cc)

-- and not behind one that is not
pub place_upto : (ps : List Payload) (m : ℕ) (x : Payload) (q : Point) → m < length ps → x ≡ get_or ps m x → point_lt x.label.point q ≡ false → place_of ps q ≤ m
place_upto [] m x q lt e b = absurd (omega arith)
place_upto (p ∷ ps) zero x q lt e b = go (point_lt p.label.point q) (subst (λ (t : Payload). point_lt t.label.point q ≡ false) e b)
  where
    go : (c : Bool) → c ≡ false → (if c then suc (place_of ps q) else zero) ≤ 0
    go true w = absurd (cc)
    go false w = omega arith
place_upto (p ∷ ps) (suc m) x q lt e b = go (point_lt p.label.point q) (place_upto ps m x q (omega arith) e b)
  where
    go : (c : Bool) → place_of ps q ≤ m → (if c then suc (place_of ps q) else zero) ≤ suc m
    go true k = omega arith
    go false k = omega arith

pub place_within : (ps : List Payload) (q : Point) → place_of ps q ≤ length ps
place_within [] q = omega arith
place_within (p ∷ ps) q = go (point_lt p.label.point q) (place_within ps q)
  where
    go : (c : Bool) → place_of ps q ≤ length ps → (if c then suc (place_of ps q) else zero) ≤ suc (length ps)
    go true k = omega arith
    go false k = omega arith

pub place_front : (ps : List Payload) (x : Payload) (q : Point) → 0 < length ps → x ≡ get_or ps 0 x → point_lt x.label.point q ≡ false → 0 ≡ place_of ps q
place_front ps x q lt e b = let k : place_of ps q ≤ 0 = place_upto ps 0 x q lt e b in omega arith

-- a payload at the front stands at the place of its point
front-place : (ps : List Payload) (q : Point) → is_some (if_at (slice_get ps 0) q) ≡ true → 0 ≡ place_of ps q
front-place [] q e = absurd (cc)
front-place (p ∷ ps) q e = go (point_eq p.label.point q) refl (point_lt p.label.point q) refl e
  where
    go : (a : Bool) → point_eq p.label.point q ≡ a → (b : Bool) → point_lt p.label.point q ≡ b → is_some (if a then Some p else None) ≡ true → 0 ≡ (if b then suc (place_of ps q) else zero)
    go true x true y f = absurd (let z : point_eq p.label.point q ≡ false = lt-not_eq p.label.point q y in cc)
    go true x false y f = refl
    go false x b y f = absurd (cc)

pub place_none : (ps : List Payload) (q : Point) → length ps ≡ 0 → 0 ≡ place_of ps q
place_none ps q e = let k : place_of ps q ≤ length ps = place_within ps q in omega arith

-- ---- what waits at a point

-- a point that is above one which is not below another point differs from that one
not-same : (s t q : Point) → point_lt s q ≡ false → point_lt s t ≡ true → point_eq t q ≡ false
not-same s t q a b = false_from_ne_true (point_eq t q) (λ e. let z : point_lt s t ≡ point_lt s q = ap (point_lt s) (same-point t q e) in cc)

pub none-there : (ps : List Payload) (q : Point) → ((x : Payload) → In ps x → point_eq x.label.point q ≡ false) → at_point ps q ≡ None
none-there [] q f = refl
none-there (p ∷ ps) q f = ap (λ (b : Bool). if b then Some p else at_point ps q) (f p (inl refl)) ∙ none-there ps q (λ x i. f x (inr i))

at-head : (p : Payload) (ps : List Payload) (q : Point) → at_point ps q ≡ None → if_at (Some p) q ≡ at_point (p ∷ ps) q
at-head p ps q none = go (point_eq p.label.point q)
  where
    go : (b : Bool) → (if b then Some p else None) ≡ (if b then Some p else at_point ps q)
    go true = refl
    go false = sym none

found-at : (ps : List Payload) (q : Point) → Ascends ps → if_at (slice_get ps (place_of ps q)) q ≡ at_point ps q
found-at [] q up = refl
found-at (p ∷ ps) q up = go (point_lt p.label.point q) refl (found-at ps q up.1)
  where
    go : (c : Bool) → point_lt p.label.point q ≡ c → if_at (slice_get ps (place_of ps q)) q ≡ at_point ps q → if_at (slice_get (p ∷ ps) (if c then suc (place_of ps q) else zero)) q ≡ at_point (p ∷ ps) q
    go true b rest = rest ∙ sym (ap (λ (c : Bool). if c then Some p else at_point ps q) (lt-not_eq p.label.point q b))
    go false b rest = at-head p ps q (none-there ps q (λ x i. not-same p.label.point x.label.point q b (up.0 x i)))

-- what is found is the payload at that place, and at that point
found-in : (o : Option Payload) (q : Point) (x : Payload) → if_at o q ≡ Some x → o ≡ Some x
found-in None q x e = absurd (cc)
found-in (Some p) q x e = go (point_eq p.label.point q) e
  where
    go : (b : Bool) → (if b then Some p else None) ≡ Some x → Some p ≡ Some x
    go true e = e
    go false e = absurd (cc)

found-point : (p : Payload) (q : Point) (x : Payload) → if_at (Some p) q ≡ Some x → p.label.point ≡ q
found-point p q x e = go (point_eq p.label.point q) refl e
  where
    go : (b : Bool) → point_eq p.label.point q ≡ b → (if b then Some p else None) ≡ Some x → p.label.point ≡ q
    go true w e = same-point p.label.point q w
    go false w e = absurd (cc)

-- what a place finds
found-place : (ps : List Payload) (q : Point) (k : ℕ) → Ascends ps → k ≡ place_of ps q → if_at (slice_get ps k) q ≡ at_point ps q
found-place ps q k up at = ap (λ (m : ℕ). if_at (slice_get ps m) q) at ∙ found-at ps q up

-- ---- after one is taken

past-left : (p : Payload) (ps : List Payload) (q : Point) → point_lt p.label.point q ≡ true → without (p ∷ ps) q ≡ p ∷ without ps q
past-left p ps q b = ap (λ (c : Bool). cond (not c) (p ∷ without ps q) (without ps q)) (lt-not_eq p.label.point q b)

at-left : (p : Payload) (ps : List Payload) (q : Point) (x : Payload) → Ascends (p ∷ ps) → if_at (Some p) q ≡ Some x → ps ≡ without (p ∷ ps) q
at-left p ps q x up e =
    let w : p.label.point ≡ q = found-point p q x e in
    let same : point_eq p.label.point q ≡ true = subst (λ (r : Point). point_eq p.label.point r ≡ true) w (point-self p.label.point) in
    sym (without-others p ps q up same)
    ∙ sym (ap (λ (c : Bool). cond (not c) (p ∷ without ps q) (without ps q)) same)

left-at : (ps : List Payload) (q : Point) (x : Payload) → Ascends ps → if_at (slice_get ps (place_of ps q)) q ≡ Some x → remove ps (place_of ps q) ≡ without ps q
left-at [] q x up e = absurd (cc)
left-at (p ∷ ps) q x up e = go (point_lt p.label.point q) refl e (left-at ps q x up.1)
  where
    go : (c : Bool) → point_lt p.label.point q ≡ c → if_at (slice_get (p ∷ ps) (if c then suc (place_of ps q) else zero)) q ≡ Some x →
        (if_at (slice_get ps (place_of ps q)) q ≡ Some x → remove ps (place_of ps q) ≡ without ps q) →
        remove (p ∷ ps) (if c then suc (place_of ps q) else zero) ≡ without (p ∷ ps) q
    go true b e rest = ap (λ (qs : List Payload). p ∷ qs) (rest e) ∙ sym (past-left p ps q b)
    go false b e rest = at-left p ps q x up e

some-there : (o : Option Payload) → is_some o ≡ true → (x : Payload) × (o ≡ Some x)
some-there None e = absurd (cc)
some-there (Some x) e = (x, refl)

none-there-is : (o : Option Payload) → is_some o ≡ false → o ≡ None
none-there-is None e = refl
none-there-is (Some x) e = absurd (cc)

pub within : (ps : List Payload) (k : ℕ) (q : Point) → is_some (if_at (slice_get ps k) q) ≡ true → k < length ps
within [] k q e = absurd (cc)
within (p ∷ ps) zero q e = omega arith
within (p ∷ ps) (suc k) q e = let z : k < length ps = within ps k q e in omega arith

pub take_found : (ps seen : List Payload) (q : Point) (k : ℕ) (r : Option Payload) → Ascends ps → ps ≡ seen → k ≡ place_of ps q → is_some (if_at (slice_get ps k) q) ≡ true → r ≡ slice_get ps k → r ≡ at_point seen q
take_found ps seen q k r up same at some e =
    let x : (x : Payload) × (if_at (slice_get ps k) q ≡ Some x) = some-there (if_at (slice_get ps k) q) some in
    e ∙ (found-in (slice_get ps k) q x.0 x.1 ∙ (sym x.1 ∙ (found-place ps q k up at ∙ ap (λ (ts : List Payload). at_point ts q) same)))

pub take_done : (ps seen new : List Payload) (q : Point) (k : ℕ) → Ascends ps → ps ≡ seen → k ≡ place_of ps q → is_some (if_at (slice_get ps k) q) ≡ true → new ≡ remove ps k → new ≡ without seen q
take_done ps seen new q k up same at some n =
    let x : (x : Payload) × (if_at (slice_get ps k) q ≡ Some x) = some-there (if_at (slice_get ps k) q) some in
    n ∙ (ap (remove ps) at ∙ (left-at ps q x.0 up (subst (λ (m : ℕ). if_at (slice_get ps m) q ≡ Some x.0) at x.1) ∙ ap (λ (ts : List Payload). without ts q) same))

-- those without a point ascend as before
pub take_ascends : (ps new : List Payload) (q : Point) → Ascends ps → new ≡ without ps q → Ascends new
take_ascends ps new q up n = subst Ascends (sym n) (without-ascends ps q up)

-- the same of the first
pub first_found : (ps seen : List Payload) (q : Point) (r : Option Payload) → Ascends ps → ps ≡ seen → is_some (if_at (slice_get ps 0) q) ≡ true → r ≡ slice_get ps 0 → r ≡ at_point seen q
first_found ps seen q r up same some e = take_found ps seen q 0 r up same (front-place ps q some) some e

first-removed : (ps : List Payload) → drop 1 ps ≡ remove ps 0
first-removed [] = refl
first-removed (p ∷ ps) = refl

pub first_done : (ps seen new : List Payload) (q : Point) → Ascends ps → ps ≡ seen → is_some (if_at (slice_get ps 0) q) ≡ true → new ≡ drop 1 ps → new ≡ without seen q
first_done ps seen new q up same some n = take_done ps seen new q 0 up same (front-place ps q some) some (n ∙ first-removed ps)

-- none waits at the point
pub take_misses : (ps seen : List Payload) (q : Point) (k : ℕ) → Ascends ps → ps ≡ seen → k ≡ place_of ps q → is_some (if_at (slice_get ps k) q) ≡ false → None ≡ at_point seen q
take_misses ps seen q k up same at e = sym (none-there-is (if_at (slice_get ps k) q) e) ∙ (found-place ps q k up at ∙ ap (λ (ts : List Payload). at_point ts q) same)

pub take_leaves : (ps seen : List Payload) (q : Point) (k : ℕ) → Ascends ps → ps ≡ seen → k ≡ place_of ps q → is_some (if_at (slice_get ps k) q) ≡ false → seen ≡ without seen q
take_leaves ps seen q k up same at e =
    sym (without-none seen q (none-at seen q (sym (take_misses ps seen q k up same at e))))

-- ---- the first, if it is that of a label

labelled-at : (o : Option Payload) (l : Label) → is_labelled o l ≡ true → is_some (if_at o l.point) ≡ true
labelled-at None l e = absurd (cc)
labelled-at (Some p) l e = ap (λ (b : Bool). is_some (if b then Some p else None)) (subst (λ (m : Label). point_eq p.label.point m.point ≡ true) (same-label p.label l e) (point-self p.label.point))

pub labelled_same : (o r : Option Payload) (l : Label) → r ≡ o → is_labelled o l ≡ true → IfSome r (λ p. p.label ≡ l)
labelled_same o None l e is = tt
labelled_same None (Some p) l e is = absurd (cc)
labelled_same (Some x) (Some p) l e is = (let s : p ≡ x = cc in ap (λ (y : Payload). y.label) s) ∙ same-label x.label l is

pub labelled_found : (ps seen : List Payload) (l : Label) (r : Option Payload) → Ascends ps → ps ≡ seen → is_labelled (slice_get ps 0) l ≡ true → r ≡ slice_get ps 0 → IfSome r (λ p. Some p ≡ at_point seen l.point)
labelled_found ps seen l None up same is e = tt
labelled_found ps seen l (Some p) up same is e = first_found ps seen l.point (Some p) up same (labelled-at (slice_get ps 0) l is) e

pub labelled_left : (ps seen new : List Payload) (l : Label) → Ascends ps → ps ≡ seen → is_labelled (slice_get ps 0) l ≡ true → new ≡ drop 1 ps → new ≡ without seen l.point
labelled_left ps seen new l up same is n = first_done ps seen new l.point up same (labelled-at (slice_get ps 0) l is) n

pub labelled_done : (ps seen new : List Payload) (l : Label) (r : Option Payload) → Ascends ps → ps ≡ seen → is_labelled (slice_get ps 0) l ≡ true → new ≡ drop 1 ps → OnSome r (new ≡ without seen l.point)
labelled_done ps seen new l None up same is n = tt
labelled_done ps seen new l (Some p) up same is n = labelled_left ps seen new l up same is n

-- one was there
pub labelled_some : (ps seen new : List Payload) (l : Label) (r : Option Payload) → is_labelled (slice_get ps 0) l ≡ true → r ≡ slice_get ps 0 → IfNone r (new ≡ seen)
labelled_some ps seen new l (Some p) is e = tt
labelled_some [] seen new l None is e = absurd (cc)
labelled_some (p ∷ ps) seen new l None is e = absurd (cc)

-- ---- after one comes

pub on-ascends : (ps : List Payload) (p : Payload) → Ascends ps → ((x : Payload) → In ps x → point_lt x.label.point p.label.point ≡ true) → Ascends (ps ++ p ∷ [])
on-ascends [] p up f = (λ x i. absurd i, tt)
on-ascends (q ∷ ps) p up f = (
  λ x i. elim (In-parts ps (p ∷ []) x i) [
    | inl a ↦ up.0 x a
    | inr b ↦ elim b [ inl e ↦ subst (λ (y : Payload). point_lt q.label.point y.label.point ≡ true) e (f q (inl refl)) | inr j ↦ absurd j ]
  ],
  on-ascends ps p up.1 (λ x i. f x (inr i)),
)

upto-last : (ps : List Payload) (m : ℕ) (x s : Payload) → Ascends ps → suc m ≡ length ps → x ≡ get_or ps m x → In ps s → (s ≡ x) ⊎ (point_lt s.label.point x.label.point ≡ true)
upto-last [] m x s up n e i = absurd i
upto-last (y ∷ ps) zero x s up n e (inl a) = inl (sym a ∙ sym e)
upto-last (y ∷ []) zero x s up n e (inr i) = absurd i
upto-last (y ∷ z ∷ ps) zero x s up n e (inr i) = absurd (omega arith)
upto-last (y ∷ ps) (suc m) x s up n e (inl a) = inr (subst (λ (t : Payload). point_lt t.label.point x.label.point ≡ true) a (up.0 x (there ps m x (omega arith) e)))
upto-last (y ∷ ps) (suc m) x s up n e (inr i) = upto-last ps m x s up.1 (omega arith) e i

last-below : (ps : List Payload) (n : ℕ) (x : Payload) (q : Point) → Ascends ps → n ≡ length ps → 0 < n → x ≡ get_or ps (n - 1) x → point_lt x.label.point q ≡ true → AreBelow ps q
last-below ps zero x q up e lt is b = absurd (omega arith)
last-below ps (suc m) x q up e lt is b = record {
  each = λ s i. elim (upto-last ps m x s up e (is ∙ ap (λ (k : ℕ). get_or ps k x) (let z : suc m - 1 ≡ m = omega arith in z)) i) [
    | inl a ↦ subst (λ (t : Payload). point_lt t.label.point q ≡ true) (sym a) b
    | inr c ↦ point_lt-trans s.label.point x.label.point q c b
  ];
}

-- ---- the calls

get-place : (ps : List Payload) (k : ℕ) (x : Payload) → k < length ps → x ≡ get_or ps k x → Some x ≡ slice_get ps k
get-place [] k x lt e = absurd (omega arith)
get-place (p ∷ ps) zero x lt e = ap Some e
get-place (p ∷ ps) (suc k) x lt e = get-place ps k x (omega arith) e

no-place : (ps : List Payload) (k : ℕ) → length ps ≤ k → None ≡ slice_get ps k
no-place [] k le = refl
no-place (p ∷ ps) zero le = absurd (omega arith)
no-place (p ∷ ps) (suc k) le = no-place ps k (omega arith)

pub copied_at : (ps : List Payload) (k n : ℕ) (r : Option (Bor Payload)) → n ≡ length ps → (is_some r ≡ true) ↔ (k < n) → IfSome r (λ x. x.now ≡ get_or ps k x.now) → option_copied r ≡ slice_get ps k
copied_at ps k n None e both look = elim (cases_lt k (length ps)) [
  | inl lt ↦ absurd (let z : false ≡ true = both.1 (omega arith) in cc)
  | inr le ↦ no-place ps k le
]
copied_at ps k n (Some x) e both look = get-place ps k x.now (let z : k < n = both.0 refl in omega arith) look

-- one that is removed was there
pub removed_there : (ps : List Payload) (k n : ℕ) (r : Option Payload) → n ≡ length ps → k < length ps → (is_some r ≡ true) ↔ (k < n) → IfSome r (λ x. x ≡ get_or ps k x) → r ≡ slice_get ps k
removed_there ps k n None e lt both look = absurd (let z : false ≡ true = both.1 (omega arith) in cc)
removed_there ps k n (Some x) e lt both look = get-place ps k x lt look

pub removed_left : (ps new : List Payload) (k n : ℕ) (r : Option Payload) → n ≡ length ps → k < length ps → (is_some r ≡ true) ↔ (k < n) → OnSome r (new ≡ remove ps k) → new ≡ remove ps k
removed_left ps new k n None e lt both left = absurd (let z : false ≡ true = both.1 (omega arith) in cc)
removed_left ps new k n (Some x) e lt both left = left

pub past_if : (ps seen : List Payload) (n : ℕ) (x : Payload) (q : Point) (b : Bool) → Ascends ps → ps ≡ seen → n ≡ length ps → 0 < n → x ≡ get_or ps (n - 1) x → b ≡ point_lt x.label.point q → OnTrue b (AreBelow seen q)
past_if ps seen n x q true up same e lt is b = subst (λ (ts : List Payload). AreBelow ts q) same (last-below ps n x q up e lt is (sym b))
past_if ps seen n x q false up same e lt is b = tt

pub push_kept : (ps seen mid new : List Payload) (p : Payload) → Ascends ps → ps ≡ seen → AreBelow seen p.label.point → mid ≡ ps → new ≡ mid ++ p ∷ [] → Ascends new
push_kept ps seen mid new p up same below m n =
    let under : AreBelow ps p.label.point = subst (λ (ts : List Payload). AreBelow ts p.label.point) (sym same) below in
    subst Ascends (sym (n ∙ ap (λ (ts : List Payload). ts ++ p ∷ []) m)) (on-ascends ps p up under.each)

pub got : (ps seen : List Payload) (q : Point) (k : ℕ) (o r : Option Payload) → Ascends ps → ps ≡ seen → k ≡ place_of ps q → o ≡ slice_get ps k → r ≡ if_at o q → r ≡ at_point seen q
got ps seen q k o r up same at e f = f ∙ (ap (λ (s : Option Payload). if_at s q) e ∙ (found-place ps q k up at ∙ ap (λ (ts : List Payload). at_point ts q) same))
