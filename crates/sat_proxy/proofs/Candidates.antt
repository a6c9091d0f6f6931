-- The least waiting label that is not past the view is the first of a site.
use Rattle.std.specs.Prelude.{ℕ, zero, suc, ◌≡◌, ◌⊎◌, ◌<◌, ◌+◌, Bool, true, false, not, List, [], ◌∷◌, ◌++◌, length, map, Option, Some, None, if◌then◌else◌, refl}
use Rattle.std.proofs.Common.{arith, ap, sym, ◌∙◌, subst, inl, inr}
use Rattle.std.proofs.lemmas.List.{map-append}
use Rattle.std.proofs.lemmas.Bool.{or_left}
use Rattle.sat_label.specs.declared.point.Point.{Point}
use Rattle.sat_label.specs.declared.label.Label.{Label}
use Rattle.sat_label.specs.Least.{least_label, lesser}
use Rattle.sat_label.specs.Order.{label_lt, point_lt}
use Rattle.sat_label.specs.Members.{In}
use Rattle.sat_label.proofs.Least.{least-append, least-is, least-nil, least-none}
use Rattle.sat_label.proofs.Orders.{point_lt-trans}
use Rattle.sat_bulk.specs.Payloads.{Payload}
use Rattle.sat_pool.specs.Pool.{Waiting, all_waiting, labelled, labels_waiting, row_of, IsPool, IsRow}
use Rattle.sat_pool.specs.Rows.{first_label}
use Rattle.sat_beat.specs.Beats.{BeatsSeen}
use Rattle.sat_act.specs.Parts.{BeatNote, best_passes, closed_below}
use Rattle.sat_proxy.specs.Helps.{in_view, told_by, waiting_below}

-- ---- one site

some_is : {X : Type 0} (x y : X) → Some x ≡ Some y → x ≡ y
some_is x y e = cc

-- the labels of payloads are theirs
pub labelled-in : (ps : List Payload) (l : Label) → In (map labelled ps) l → (p : Payload) × (In ps p) × (p.label ≡ l)
labelled-in [] l m = absurd m
labelled-in (p ∷ ps) l (inl e) = (p, inl refl, e)
labelled-in (p ∷ ps) l (inr m) = let k = labelled-in ps l m in (k.0, inr k.1, k.2)

row-site : (k : ℕ) (ps : List Payload) (p : Payload) → IsRow k ps → In ps p → p.label.point.site ≡ k
row-site k [] p is m = absurd m
row-site k (q ∷ ps) p is (inl e) = subst (λ (r : Payload). r.label.point.site ≡ k) e is.0
row-site k (q ∷ ps) p is (inr m) = row-site k ps p is.2 m

-- a later label of a site is past the view where an earlier one is
closed-later : (view : ℕ) (l m : Label) (note : BeatNote) → point_lt l.point m.point ≡ true → closed_below view l note ≡ true → closed_below view m note ≡ true
closed-later view l m note lt e = go (note.closes view) e
  where
    go : (o : Option Point) → (elim o [ None ↦ false | Some p ↦ point_lt p l.point ]) ≡ true → (elim o [ None ↦ false | Some p ↦ point_lt p m.point ]) ≡ true
    go None e = e
    go (Some p) e = point_lt-trans p l.point m.point e lt

past-later : (o : Option (ℕ × BeatNote)) (view : ℕ) (l m : Label) → point_lt l.point m.point ≡ true → not (best_passes o (closed_below view l)) ≡ false → not (best_passes o (closed_below view m)) ≡ false
past-later None view l m lt e = e
past-later (Some b) view l m lt e = ap not (closed-later view l m b.1 lt (go (closed_below view l b.1) e))
  where
    go : (t : Bool) → not t ≡ false → t ≡ true
    go true e = refl
    go false e = absurd (cc)

pub no_candidate : (b : BeatsSeen) (view : ℕ) (ps : List Payload) → first_label ps ≡ None → None ≡ least_label (in_view b view) (map labelled ps)
no_candidate b view [] e = sym (least-nil (in_view b view))
no_candidate b view (p ∷ ps) e = absurd (cc)

least-head : (p : Label → Bool) (l : Label) (ls : List Label) → p l ≡ true → ((m : Label) → In ls m → label_lt l m ≡ true) → Some l ≡ least_label p (l ∷ ls)
unfolding least_label
least-head p l ls passes low = sym (ap (λ (t : Bool). if t then lesser (Some l) (least_label p ls) else least_label p ls) passes ∙ go (least_label p ls) (λ m e. low m (least-is p ls m e).member))
  where
    go : (o : Option Label) → ((m : Label) → o ≡ Some m → label_lt l m ≡ true) → lesser (Some l) o ≡ Some l
    go None f = refl
    go (Some m) f = ap (λ (t : Bool). if t then Some l else Some m) (f m refl)

above : (q : Payload) (ps : List Payload) → ((r : Payload) → In ps r → point_lt q.label.point r.label.point ≡ true) → (m : Label) → In (map labelled ps) m → point_lt q.label.point m.point ≡ true
above q ps low m i = let k = labelled-in ps m i in subst (λ (l : Label). point_lt q.label.point l.point ≡ true) k.2 (low k.0 k.1)

pub first_candidate : (b : BeatsSeen) (view k : ℕ) (ps : List Payload) (l : Label) → IsRow k ps → first_label ps ≡ Some l → in_view b view l ≡ true → Some l ≡ least_label (in_view b view) (map labelled ps)
first_candidate b view k [] l is e passes = absurd (cc)
first_candidate b view k (q ∷ ps) l is e passes =
    let same : q.label ≡ l = some_is _ _ e in
    subst (λ (m : Label). Some m ≡ least_label (in_view b view) (map labelled (q ∷ ps))) same
    (least-head (in_view b view) q.label (map labelled ps) (subst (λ (m : Label). in_view b view m ≡ true) (sym same) passes) (λ m i. or_left (point_lt q.label.point m.point) _ (above q ps is.1 m i)))

pub past_candidate : (b : BeatsSeen) (view k : ℕ) (ps : List Payload) (l : Label) → IsRow k ps → first_label ps ≡ Some l → in_view b view l ≡ false → None ≡ least_label (in_view b view) (map labelled ps)
past_candidate b view k [] l is e past = absurd (cc)
past_candidate b view k (q ∷ ps) l is e past = sym (least-none (in_view b view) (map labelled (q ∷ ps)) each)
  where
    same : q.label ≡ l
    same = some_is _ _ e

    first : in_view b view q.label ≡ false
    first = subst (λ (m : Label). in_view b view m ≡ false) (sym same) past

    each : (m : Label) → In (map labelled (q ∷ ps)) m → in_view b view m ≡ false
    each m (inl w) = subst (λ (n : Label). in_view b view n ≡ false) w first
    each m (inr i) =
        let j = labelled-in ps m i in
        let site : q.label.point.site ≡ m.point.site = is.0 ∙ sym (subst (λ (n : Label). n.point.site ≡ k) j.2 (row-site k ps j.0 is.2 j.1)) in
        subst (λ (s : ℕ). not (best_passes (told_by b s) (closed_below view m)) ≡ false) site (past-later (told_by b q.label.point.site) view q.label m (above q ps is.1 m i) first)

-- ---- all sites

pub candidate_start : (p : Label → Bool) (w : Waiting) → None ≡ least_label p (map labelled (waiting_below w 0))
unfolding waiting_below
candidate_start p w = sym (least-nil p)

pub candidate_more : (p : Label → Bool) (w : Waiting) (n : ℕ) → least_label p (map labelled (waiting_below w (n + 1))) ≡ lesser (least_label p (map labelled (waiting_below w n))) (least_label p (map labelled (row_of w n)))
unfolding waiting_below
candidate_more p w n =
    ap (λ (m : ℕ). least_label p (map labelled (waiting_below w m))) (one n) ∙
    (ap (least_label p) (map-append labelled (waiting_below w n) (row_of w n)) ∙ least-append p (map labelled (waiting_below w n)) (map labelled (row_of w n)))
  where
    one : (n : ℕ) → n + 1 ≡ suc n
    one n = omega arith

append-assoc : (xs ys zs : List Payload) → (xs ++ ys) ++ zs ≡ xs ++ (ys ++ zs)
append-assoc [] ys zs = refl
append-assoc (x ∷ xs) ys zs = ap (λ (us : List Payload). x ∷ us) (append-assoc xs ys zs)

append-nil : (xs : List Payload) → xs ++ [] ≡ xs
append-nil [] = refl
append-nil (x ∷ xs) = ap (λ (us : List Payload). x ∷ us) (append-nil xs)

below-front : (row : List Payload) (rows : List (List Payload)) (n : ℕ) → waiting_below (record { rows = row ∷ rows }) (suc n) ≡ row ++ waiting_below (record { rows = rows }) n
unfolding waiting_below
below-front row rows zero = sym (append-nil row)
below-front row rows (suc n) = ap (λ (ps : List Payload). ps ++ row_of (record { rows = rows }) n) (below-front row rows n) ∙ append-assoc row (waiting_below (record { rows = rows }) n) (row_of (record { rows = rows }) n)

all-below : (rows : List (List Payload)) → waiting_below (record { rows = rows }) (length rows) ≡ all_waiting (record { rows = rows })
unfolding waiting_below
all-below [] = refl
all-below (row ∷ rows) = below-front row rows (length rows) ∙ ap (λ (ps : List Payload). row ++ ps) (all-below rows)

pub candidate_all : (p : Label → Bool) (w : Waiting) (n : ℕ) → n ≡ length w.rows → least_label p (map labelled (waiting_below w n)) ≡ least_label p (labels_waiting w)
candidate_all p w n e = ap (λ (ps : List Payload). least_label p (map labelled ps)) (ap (waiting_below w) e ∙ all-below w.rows)

-- ---- what waits is of a site

pub record Waits (w : Waiting) (n : ℕ) (p : Payload) : Type 0 where
  pub site : ℕ
  pub low : site < n
  pub there : In (row_of w site) p

in-append : (xs ys : List Payload) (p : Payload) → In (xs ++ ys) p → In xs p ⊎ In ys p
in-append [] ys p m = inr m
in-append (x ∷ xs) ys p (inl e) = inl (inl e)
in-append (x ∷ xs) ys p (inr m) = elim (in-append xs ys p m) [ inl k ↦ inl (inr k) | inr k ↦ inr k ]

waits-below : (w : Waiting) (n : ℕ) (p : Payload) → In (waiting_below w n) p → Waits w n p
unfolding waiting_below
waits-below w zero p m = absurd m
waits-below w (suc n) p m = elim (in-append (waiting_below w n) (row_of w n) p m) [
  | inl k ↦ let r : Waits w n p = waits-below w n p k in record { site = r.site; low = (let lt : r.site < n = r.low in omega arith); there = r.there }
  | inr k ↦ record { site = n; low = omega arith; there = k }
]

-- the least of those that wait is the label of one, in the row of its site
pub record Candidate (w : Waiting) (l : Label) : Type 0 where
  pub payload : Payload
  pub label : payload.label ≡ l
  pub low : l.point.site < length w.rows
  pub there : In (row_of w l.point.site) payload

pub candidate-is : (test : Label → Bool) (w : Waiting) (l : Label) → IsPool w → least_label test (labels_waiting w) ≡ Some l → Candidate w l
candidate-is test w l is e =
    let k = labelled-in (all_waiting w) l (least-is test (labels_waiting w) l e).member in
    let r : Waits w (length w.rows) k.0 = waits-below w (length w.rows) k.0 (subst (λ (ps : List Payload). In ps k.0) (sym (all-below w.rows)) k.1) in
    let site : r.site ≡ l.point.site = sym (row-site r.site (row_of w r.site) k.0 (is.each r.site) r.there) ∙ ap (λ (m : Label). m.point.site) k.2 in
    record {
      payload = k.0;
      label = k.2;
      low = subst (λ (s : ℕ). s < length w.rows) site r.low;
      there = subst (λ (s : ℕ). In (row_of w s) k.0) site r.there;
    }

pub candidate_low : (test : Label → Bool) (w : Waiting) (l : Label) (n : ℕ) → IsPool w → n ≡ length w.rows → Some l ≡ least_label test (labels_waiting w) → l.point.site < n
candidate_low test w l n is e f = subst (λ (m : ℕ). l.point.site < m) (sym e) (candidate-is test w l is (sym f)).low
