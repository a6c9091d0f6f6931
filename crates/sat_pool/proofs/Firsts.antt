-- The first of a site decides.
use Rattle.std.specs.Prelude.{◌≡◌, ◌||◌, ◌≤◌, ℕ, Bool, true, false, nat_le, List, [], ◌∷◌, map, Option, Some, None, get_or, if◌then◌else◌, refl}
use Rattle.std.specs.List.{list_any}
use Rattle.std.proofs.Common.{arith, sym, ◌∙◌, ap, subst, inl, inr}
use Rattle.std.proofs.lemmas.Bool.{false_from_ne_true, le-leb, leb-true}
use Rattle.sat_label.specs.declared.point.Point.{Point}
use Rattle.sat_label.specs.declared.label.Label.{Label}
use Rattle.sat_label.specs.Order.{point_lt, point_le, label_lt}
use Rattle.sat_label.specs.Members.{In}
use Rattle.sat_label.specs.Least.{least_label, lesser}
use Rattle.sat_label.proofs.Orders.{point_lt-le, point_le-trans, lt-ts, labels-lt}
use Rattle.sat_label.proofs.Least.{least-nil, least-none, least-is}
use Rattle.sat_bulk.specs.Payloads.{Payload}
use Rattle.sat_pool.specs.Pool.{is_before, labelled, IsRow}
use Rattle.sat_pool.specs.Rows.{first_label, Ascends, OfOneSite}

-- ---- whether one passes

any-none : (test : Label → Bool) (ps : List Payload) → ((x : Payload) → In ps x → test x.label ≡ false) → list_any test (map labelled ps) ≡ false
any-none test [] f = refl
any-none test (p ∷ ps) f = ap (λ (b : Bool). b || list_any test (map labelled ps)) (f p (inl refl)) ∙ any-none test ps (λ x i. f x (inr i))

-- a test that a label below passes too is decided by the first
any-first : (test : Label → Bool) → ((l m : Label) → point_lt l.point m.point ≡ true → test m ≡ true → test l ≡ true) → (p : Payload) (ps : List Payload) → Ascends (p ∷ ps) → list_any test (map labelled (p ∷ ps)) ≡ test p.label
any-first test falls p ps up = go (test p.label) refl
  where
    go : (b : Bool) → test p.label ≡ b → (b || list_any test (map labelled ps)) ≡ b
    go true e = refl
    go false e = any-none test ps (λ x i. false_from_ne_true (test x.label) (λ t. let z : test p.label ≡ true = falls p.label x.label (up.0 x i) t in cc))

none-any : (test : Label → Bool) (ps : List Payload) → None ≡ first_label ps → false ≡ list_any test (map labelled ps)
none-any test [] e = refl
none-any test (p ∷ ps) e = absurd (cc)

first-any : (test : Label → Bool) → ((l m : Label) → point_lt l.point m.point ≡ true → test m ≡ true → test l ≡ true) → (ps : List Payload) (l : Label) → Some l ≡ first_label ps → Ascends ps → test l ≡ list_any test (map labelled ps)
first-any test falls [] l e up = absurd (cc)
first-any test falls (p ∷ ps) l e up = (let s : l ≡ p.label = cc in ap test s) ∙ sym (any-first test falls p ps up)

up-falls : (q : Point) (l m : Label) → point_lt l.point m.point ≡ true → point_le m.point q ≡ true → point_le l.point q ≡ true
up-falls q l m lt le = point_le-trans l.point m.point q (point_lt-le l.point m.point lt) le

pub none_up : (q : Point) (ps : List Payload) → None ≡ first_label ps → false ≡ list_any (λ l. point_le l.point q) (map labelled ps)
none_up q ps e = none-any (λ l. point_le l.point q) ps e

pub first_up : (q : Point) (ps : List Payload) (l : Label) → Some l ≡ first_label ps → Ascends ps → point_le l.point q ≡ list_any (λ l. point_le l.point q) (map labelled ps)
first_up q ps l e up = first-any (λ l. point_le l.point q) (up-falls q) ps l e up

early-falls : (ts : ℕ) (l m : Label) → point_lt l.point m.point ≡ true → nat_le m.point.ts ts ≡ true → nat_le l.point.ts ts ≡ true
early-falls ts l m lt le = le-leb l.point.ts ts (le-trans l.point.ts m.point.ts ts (lt-ts l.point m.point lt) (leb-true m.point.ts ts le))
  where
    le-trans : (x y z : ℕ) → x ≤ y → y ≤ z → x ≤ z
    le-trans x y z p q = omega arith

pub none_early : (ts : ℕ) (ps : List Payload) → None ≡ first_label ps → false ≡ list_any (λ l. nat_le l.point.ts ts) (map labelled ps)
none_early ts ps e = none-any (λ l. nat_le l.point.ts ts) ps e

pub first_early : (ts : ℕ) (ps : List Payload) (l : Label) → Some l ≡ first_label ps → Ascends ps → nat_le l.point.ts ts ≡ list_any (λ l. nat_le l.point.ts ts) (map labelled ps)
first_early ts ps l e up = first-any (λ l. nat_le l.point.ts ts) (early-falls ts) ps l e up

-- ---- the least that passes

pub row-site : (k : ℕ) (ps : List Payload) (x : Payload) → IsRow k ps → In ps x → x.label.point.site ≡ k
row-site k [] x is i = absurd i
row-site k (p ∷ ps) x is (inl e) = subst (λ (y : Payload). y.label.point.site ≡ k) e is.0
row-site k (p ∷ ps) x is (inr i) = row-site k ps x is.2 i

in-labels : (ps : List Payload) (P : Label → Type 0) → ((x : Payload) → In ps x → P x.label) → (m : Label) → In (map labelled ps) m → P m
in-labels [] P f m i = absurd i
in-labels (p ∷ ps) P f m (inl e) = subst P e (f p (inl refl))
in-labels (p ∷ ps) P f m (inr i) = in-labels ps P (λ x j. f x (inr j)) m i

-- of one site, what is below one that is not past the close cut is not past it
before-falls : (closes : List (Option Point)) (l m : Label) → l.point.site ≡ m.point.site → point_lt l.point m.point ≡ true → is_before closes m ≡ true → is_before closes l ≡ true
before-falls closes l m same lt e =
    ap (λ (k : ℕ). elim (get_or closes k None) [ None ↦ true | Some p ↦ point_le l.point p ]) same ∙ go (get_or closes m.point.site None) e
  where
    go : (o : Option Point) → elim o [ None ↦ true | Some p ↦ point_le m.point p ] ≡ true → elim o [ None ↦ true | Some p ↦ point_le l.point p ] ≡ true
    go None e = refl
    go (Some p) e = up-falls p l m lt e

below-all : (test : Label → Bool) (x : Label) (ls : List Label) → ((m : Label) → In ls m → label_lt x m ≡ true) → lesser (Some x) (least_label test ls) ≡ Some x
below-all test x ls f = go (least_label test ls) refl
  where
    go : (o : Option Label) → least_label test ls ≡ o → lesser (Some x) o ≡ Some x
    go None e = refl
    go (Some y) e = ap (λ (b : Bool). if b then Some x else Some y) (f y (least-is test ls y e).member)

pub least-first : (test : Label → Bool) (p : Payload) (ps : List Payload) → Ascends (p ∷ ps) → test p.label ≡ true → least_label test (map labelled (p ∷ ps)) ≡ Some p.label
unfolding least_label
least-first test p ps up e =
    ap (λ (b : Bool). if b then lesser (Some p.label) (least_label test (map labelled ps)) else least_label test (map labelled ps)) e
    ∙ below-all test p.label (map labelled ps) (in-labels ps (λ (m : Label). label_lt p.label m ≡ true) (λ x i. labels-lt p.label x.label (up.0 x i)))

pub least_none : (closes : List (Option Point)) (ps : List Payload) → None ≡ first_label ps → None ≡ least_label (is_before closes) (map labelled ps)
least_none closes [] e = sym (least-nil (is_before closes))
least_none closes (p ∷ ps) e = absurd (cc)

pub least_first : (closes : List (Option Point)) (ps : List Payload) (l : Label) → Some l ≡ first_label ps → Ascends ps → is_before closes l ≡ true → Some l ≡ least_label (is_before closes) (map labelled ps)
least_first closes [] l e up t = absurd (cc)
least_first closes (p ∷ ps) l e up t =
    let s : l ≡ p.label = cc in
    e ∙ sym (least-first (is_before closes) p ps up (subst (λ (m : Label). is_before closes m ≡ true) s t))

pub least_past : (closes : List (Option Point)) (ps : List Payload) (l : Label) → Some l ≡ first_label ps → Ascends ps → OfOneSite ps → is_before closes l ≡ false → None ≡ least_label (is_before closes) (map labelled ps)
least_past closes [] l e up is f = absurd (cc)
least_past closes (p ∷ ps) l e up is f =
    let s : l ≡ p.label = cc in
    let past : is_before closes p.label ≡ false = subst (λ (m : Label). is_before closes m ≡ false) s f in
    sym (least-none (is_before closes) (map labelled (p ∷ ps)) (in-labels (p ∷ ps) (λ (m : Label). is_before closes m ≡ false) (λ x i. elim i [
      | inl a ↦ subst (λ (y : Payload). is_before closes y.label ≡ false) a past
      | inr j ↦ false_from_ne_true (is_before closes x.label) (λ t.
          let row : IsRow is.0 (p ∷ ps) = is.1 in
          let same : p.label.point.site ≡ x.label.point.site = row.0 ∙ sym (row-site is.0 ps x row.2 j) in
          let z : is_before closes p.label ≡ true = before-falls closes p.label x.label same (up.0 x j) t in
          cc)
    ])))
